use Rattle.std.proofs.Common.{◌≡◌, ◌∙◌, List, length, subst, arith}
use Rattle.bit_rows.specs.Tables.{HasShape}
use Rattle.clashes.specs.Marks.{Marks, on}
use Rattle.clashes.specs.Layout.{fore_row, back_row, enters_row, falls_row, row_count, marks_in, IsLaid}
use Rattle.invariants.specs.declared.Invariant.{Invariant}
use Rattle.clashes.specs.Changes.{IsEntered}
use Rattle.clashes.proofs.Bits.{IsPropagated, or_propagated_at}
use Rattle.clashes.proofs.Laid.{KeepsMasks, propagated_keeps, keeps_then, laid_kept, entered}
use Rattle.clashes.proofs.Kept.{kept_of, same_marks}
use Rattle.clashes.proofs.mark_rows.MarkRows.enter.Goals as goal

laid : (c : goal.After-or_into-2) → IsLaid c.self.inside.invs.items c.self.inside.others c.complete_masks.new.rows
laid c = subst (λ (invs : List Invariant). IsLaid invs c.self.inside.others c.complete_masks.new.rows) c.as_slice-invs.ensures.value c.complete_masks.ensures.laid

same-view : (c : goal.After-or_into-2) → marks_in c.self.inside.invs.items c.self.inside.others c.complete_masks.new.rows ≡ c.args.self.now
same-view c = same_marks c.self.inside.invs.items c.self.inside.others c.self.inside.rows c.complete_masks.new.rows c.complete_masks.ensures.ids ∙ c.self.view_is

fore-propagated : (c : goal.After-or_into-2) → IsPropagated c.complete_masks.new.rows c.or_into.new.self (fore_row c.self.inside.others c.args.to) (on c.complete_masks.new.rows (enters_row c.min-x.result))
fore-propagated c =
    or_propagated_at c.complete_masks.new.rows c.or_into.new.self (row_count c.self.inside.others) (length c.self.inside.invs.items) c.fore_row.result c.enters_row.result (fore_row c.self.inside.others c.args.to) (enters_row c.min-x.result)
    c.fore_row.ensures c.enters_row.ensures (laid c).shape (omega (arith, c.requires.to_id)) (omega (arith, c.min-x.ensures)) c.or_into.ensures.rows

back-propagated : (c : goal.After-or_into-2) → IsPropagated c.or_into.new.self c.or_into-2.new.self (back_row c.self.inside.others c.args.from) (on c.or_into.new.self (falls_row c.min-x.result))
back-propagated c =
    let shape : HasShape c.or_into.new.self (row_count c.self.inside.others) (length c.self.inside.invs.items) = c.or_into.ensures.shape _ _ (laid c).shape in
    or_propagated_at c.or_into.new.self c.or_into-2.new.self (row_count c.self.inside.others) (length c.self.inside.invs.items) c.back_row.result c.falls_row.result (back_row c.self.inside.others c.args.from) (falls_row c.min-x.result)
    c.back_row.ensures c.falls_row.ensures shape (omega (arith, c.requires.from_id)) (omega (arith, c.min-x.ensures)) c.or_into-2.ensures.rows

pub invariant_of-self : goal.invariant_of-self
invariant_of-self c =
    let one : KeepsMasks c.self.inside.others c.complete_masks.new.rows c.or_into.new.self = propagated_keeps c.self.inside.others c.complete_masks.new.rows c.or_into.new.self (fore_row c.self.inside.others c.args.to) _ c.or_into.ensures.shape (fore-propagated c) (omega (arith, c.requires.to_id)) in
    let two : KeepsMasks c.self.inside.others c.or_into.new.self c.or_into-2.new.self = propagated_keeps c.self.inside.others c.or_into.new.self c.or_into-2.new.self (back_row c.self.inside.others c.args.from) _ c.or_into-2.ensures.shape (back-propagated c) (omega (arith, c.requires.from_id)) in
    kept_of c.self.inside.invs.items c.self.inside.others c.complete_masks.new.masked c.or_into-2.new.self c.complete_masks.ensures.masked
    (laid_kept c.self.inside.invs.items c.self.inside.others c.complete_masks.new.rows c.or_into-2.new.self (keeps_then c.self.inside.others c.complete_masks.new.rows c.or_into.new.self c.or_into-2.new.self one two) (laid c))

pub returns : goal.returns
returns c =
    subst (λ (old : Marks). IsEntered old (marks_in c.self.inside.invs.items c.self.inside.others c.or_into-2.new.self) c.args.from c.args.to c.args.typ) (same-view c)
    (entered c.self.inside.invs.items c.self.inside.others c.complete_masks.new.rows c.or_into.new.self c.or_into-2.new.self c.args.from c.args.to c.args.typ c.min-x.result (laid c) c.min-x.ensures
    c.requires.from_id c.requires.to_id (fore-propagated c) (back-propagated c))
