use Rattle.std.proofs.Common.{◌∙◌, ◌≡◌, ℕ, ◌||◌, Bool, List, length, subst, arith, ◌&&◌}
use Rattle.std.proofs.lemmas.Simd.{length-zip2}
use Rattle.bit_rows.specs.Tables.{HasShape, row_at, both}
use Rattle.clashes.specs.Marks.{Marks, on}
use Rattle.clashes.specs.Layout.{ids_from, fore_row, back_row, stays_row, row_count, marks_in, IsLaid}
use Rattle.invariants.specs.declared.Invariant.{Invariant}
use Rattle.clashes.specs.Changes.{IsFollowed, TellsGrowth}
use Rattle.clashes.proofs.Bits.{IsPropagated, or_and_propagated_at}
use Rattle.clashes.proofs.Offs.{IsTold, told_behind, told_join}
use Rattle.clashes.proofs.Laid.{KeepsMasks, propagated_keeps, keeps_then, laid_kept, followed, told_marks}
use Rattle.clashes.proofs.Kept.{kept_of, same_marks}
use Rattle.clashes.proofs.mark_rows.MarkRows.follow.Goals as goal

laid : (c : goal.After-or_and_into-ahead) → IsLaid c.self.inside.invs.items c.self.inside.others c.complete_masks.new.rows
laid c = subst (λ (invs : List Invariant). IsLaid invs c.self.inside.others c.complete_masks.new.rows) c.as_slice-invs.ensures.value c.complete_masks.ensures.laid

same-view : (c : goal.After-or_and_into-ahead) → marks_in c.self.inside.invs.items c.self.inside.others c.complete_masks.new.rows ≡ c.args.self.now
same-view c = same_marks c.self.inside.invs.items c.self.inside.others c.self.inside.rows c.complete_masks.new.rows c.complete_masks.ensures.ids ∙ c.self.view_is

fore-propagated : (c : goal.After-or_and_into-ahead) → IsPropagated c.complete_masks.new.rows c.or_and_into-met.new.self (fore_row c.self.inside.others c.args.to) (λ k. on c.complete_masks.new.rows (fore_row c.self.inside.others c.args.from) k && on c.complete_masks.new.rows (stays_row c.min-x.result) k)
fore-propagated c =
    or_and_propagated_at c.complete_masks.new.rows c.or_and_into-met.new.self (row_count c.self.inside.others) (length c.self.inside.invs.items) c.fore_row.result c.fore_row-2.result c.stays_row.result (fore_row c.self.inside.others c.args.to) (fore_row c.self.inside.others c.args.from) (stays_row c.min-x.result)
    c.fore_row.ensures c.fore_row-2.ensures c.stays_row.ensures (laid c).shape (omega (arith, c.requires.to_id)) (omega (arith, c.requires.from_id)) (omega (arith, c.min-x.ensures)) c.or_and_into-met.ensures.rows

mid-shape : (c : goal.After-or_and_into-ahead) → HasShape c.or_and_into-met.new.self (row_count c.self.inside.others) (length c.self.inside.invs.items)
mid-shape c = c.or_and_into-met.ensures.shape _ _ (laid c).shape

back-propagated : (c : goal.After-or_and_into-ahead) → IsPropagated c.or_and_into-met.new.self c.or_and_into-ahead.new.self (back_row c.self.inside.others c.args.from) (λ k. on c.or_and_into-met.new.self (back_row c.self.inside.others c.args.to) k && on c.or_and_into-met.new.self (stays_row c.min-x.result) k)
back-propagated c =
    or_and_propagated_at c.or_and_into-met.new.self c.or_and_into-ahead.new.self (row_count c.self.inside.others) (length c.self.inside.invs.items) c.back_row.result c.back_row-2.result c.stays_row-2.result (back_row c.self.inside.others c.args.from) (back_row c.self.inside.others c.args.to) (stays_row c.min-x.result)
    c.back_row.ensures c.back_row-2.ensures c.stays_row-2.ensures (mid-shape c) (omega (arith, c.requires.from_id)) (omega (arith, c.requires.to_id)) (omega (arith, c.min-x.ensures)) c.or_and_into-ahead.ensures.rows

pub invariant_of-self : goal.invariant_of-self
invariant_of-self c =
    let one : KeepsMasks c.self.inside.others c.complete_masks.new.rows c.or_and_into-met.new.self = propagated_keeps c.self.inside.others c.complete_masks.new.rows c.or_and_into-met.new.self (fore_row c.self.inside.others c.args.to) _ c.or_and_into-met.ensures.shape (fore-propagated c) (omega (arith, c.requires.to_id)) in
    let two : KeepsMasks c.self.inside.others c.or_and_into-met.new.self c.or_and_into-ahead.new.self = propagated_keeps c.self.inside.others c.or_and_into-met.new.self c.or_and_into-ahead.new.self (back_row c.self.inside.others c.args.from) _ c.or_and_into-ahead.ensures.shape (back-propagated c) (omega (arith, c.requires.from_id)) in
    kept_of c.self.inside.invs.items c.self.inside.others c.complete_masks.new.masked c.or_and_into-ahead.new.self c.complete_masks.ensures.masked
    (laid_kept c.self.inside.invs.items c.self.inside.others c.complete_masks.new.rows c.or_and_into-ahead.new.self (keeps_then c.self.inside.others c.complete_masks.new.rows c.or_and_into-met.new.self c.or_and_into-ahead.new.self one two) (laid c))

-- the rows that are added are as long as the others
long-both : (T : List (List Bool)) (bits r a mask : ℕ) → length (row_at T r) ≡ bits → length (row_at T a) ≡ bits → length (row_at T mask) ≡ bits → length (row_at T r) ≡ length (both (row_at T a) (row_at T mask))
long-both T bits r a mask er ea em =
    let k : length (both (row_at T a) (row_at T mask)) ≡ length (row_at T a) = length-zip2 (λ x y. x && y) (row_at T a) (row_at T mask) (omega arith) in
    omega arith

pub returns-clause-tells : goal.returns-clause-tells
returns-clause-tells c =
    let n : ℕ = row_count c.self.inside.others in
    let bits : ℕ = length c.self.inside.invs.items in
    let s : HasShape c.complete_masks.new.rows n bits = (laid c).shape in
    let m : HasShape c.or_and_into-met.new.self n bits = mid-shape c in
    let one : IsTold (ids_from c.self.inside.others) c.complete_masks.new.rows c.or_and_into-met.new.self c.or_and_into-met.result =
    told_behind (ids_from c.self.inside.others) c.complete_masks.new.rows c.or_and_into-met.new.self c.fore_row.result (both (row_at c.complete_masks.new.rows c.fore_row-2.result) (row_at c.complete_masks.new.rows c.stays_row.result)) c.or_and_into-met.result
    (omega (arith, c.fore_row.ensures)) (omega (arith, c.fore_row.ensures, c.requires.to_id, s.count)) c.or_and_into-met.ensures.rows
    (long-both c.complete_masks.new.rows bits c.fore_row.result c.fore_row-2.result c.stays_row.result (s.long c.fore_row.result (omega (arith, c.fore_row.ensures, c.requires.to_id))) (s.long c.fore_row-2.result (omega (arith, c.fore_row-2.ensures, c.requires.from_id))) (s.long c.stays_row.result (omega (arith, c.stays_row.ensures, c.min-x.ensures))))
    c.or_and_into-met.ensures.stays c.or_and_into-met.ensures.changes in
    let two : IsTold (ids_from c.self.inside.others) c.or_and_into-met.new.self c.or_and_into-ahead.new.self c.or_and_into-ahead.result =
    told_behind (ids_from c.self.inside.others) c.or_and_into-met.new.self c.or_and_into-ahead.new.self c.back_row.result (both (row_at c.or_and_into-met.new.self c.back_row-2.result) (row_at c.or_and_into-met.new.self c.stays_row-2.result)) c.or_and_into-ahead.result
    (omega (arith, c.back_row.ensures)) (omega (arith, c.back_row.ensures, c.requires.from_id, m.count)) c.or_and_into-ahead.ensures.rows
    (long-both c.or_and_into-met.new.self bits c.back_row.result c.back_row-2.result c.stays_row-2.result (m.long c.back_row.result (omega (arith, c.back_row.ensures, c.requires.from_id))) (m.long c.back_row-2.result (omega (arith, c.back_row-2.ensures, c.requires.to_id))) (m.long c.stays_row-2.result (omega (arith, c.stays_row-2.ensures, c.min-x.ensures))))
    c.or_and_into-ahead.ensures.stays c.or_and_into-ahead.ensures.changes in
    subst (λ (old : Marks). TellsGrowth old (marks_in c.self.inside.invs.items c.self.inside.others c.or_and_into-ahead.new.self) (c.or_and_into-met.result || c.or_and_into-ahead.result)) (same-view c)
    (told_marks c.self.inside.invs.items c.self.inside.others c.complete_masks.new.rows c.or_and_into-ahead.new.self (c.or_and_into-met.result || c.or_and_into-ahead.result)
    (told_join (ids_from c.self.inside.others) c.complete_masks.new.rows c.or_and_into-met.new.self c.or_and_into-ahead.new.self c.or_and_into-met.result c.or_and_into-ahead.result one two))

pub returns-clause-marks : goal.returns-clause-marks
returns-clause-marks c =
    subst (λ (old : Marks). IsFollowed old (marks_in c.self.inside.invs.items c.self.inside.others c.or_and_into-ahead.new.self) c.args.from c.args.to c.args.typ) (same-view c)
    (followed c.self.inside.invs.items c.self.inside.others c.complete_masks.new.rows c.or_and_into-met.new.self c.or_and_into-ahead.new.self c.args.from c.args.to c.args.typ c.min-x.result (laid c) c.min-x.ensures
    c.requires.from_id c.requires.to_id c.if-from-to.false (fore-propagated c) (back-propagated c))
