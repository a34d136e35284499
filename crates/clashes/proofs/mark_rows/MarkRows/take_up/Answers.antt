use Rattle.std.proofs.Common.{length, subst, arith}
use Rattle.bit_rows.specs.Tables.{HasShape}
use Rattle.clashes.specs.Marks.{Marks, on}
use Rattle.clashes.specs.Layout.{fore_row, back_row, row_count, marks_in}
use Rattle.clashes.specs.Changes.{IsTakenUp}
use Rattle.clashes.proofs.Bits.{IsPropagated, or_propagated_at}
use Rattle.clashes.proofs.Laid.{KeepsMasks, propagated_keeps, keeps_then, taken_up}
use Rattle.clashes.proofs.Kept.{taken_blank, kept_more}
use Rattle.clashes.proofs.mark_rows.MarkRows.take_up.Goals as goal

fore-propagated : (c : goal.After-or_into-2) → IsPropagated c.self.inside.rows c.or_into.new.self (fore_row c.self.inside.others c.args.p) (on c.self.inside.rows (fore_row c.self.inside.others c.args.q))
fore-propagated c =
    or_propagated_at c.self.inside.rows c.or_into.new.self (row_count c.self.inside.others) (length c.self.inside.invs.items) c.fore_row.result c.fore_row-2.result (fore_row c.self.inside.others c.args.p) (fore_row c.self.inside.others c.args.q)
    c.fore_row.ensures c.fore_row-2.ensures c.self.invariant.shape (omega (arith, c.requires.to)) (omega (arith, c.requires.from)) c.or_into.ensures.rows

back-propagated : (c : goal.After-or_into-2) → IsPropagated c.or_into.new.self c.or_into-2.new.self (back_row c.self.inside.others c.args.p) (on c.or_into.new.self (back_row c.self.inside.others c.args.q))
back-propagated c =
    let shape : HasShape c.or_into.new.self (row_count c.self.inside.others) (length c.self.inside.invs.items) = c.or_into.ensures.shape _ _ c.self.invariant.shape in
    or_propagated_at c.or_into.new.self c.or_into-2.new.self (row_count c.self.inside.others) (length c.self.inside.invs.items) c.back_row.result c.back_row-2.result (back_row c.self.inside.others c.args.p) (back_row c.self.inside.others c.args.q)
    c.back_row.ensures c.back_row-2.ensures shape (omega (arith, c.requires.to)) (omega (arith, c.requires.from)) c.or_into-2.ensures.rows

pub invariant_of-self : goal.invariant_of-self
invariant_of-self c =
    let one : KeepsMasks c.self.inside.others c.self.inside.rows c.or_into.new.self = propagated_keeps c.self.inside.others c.self.inside.rows c.or_into.new.self (fore_row c.self.inside.others c.args.p) _ c.or_into.ensures.shape (fore-propagated c) (omega (arith, c.requires.to)) in
    let two : KeepsMasks c.self.inside.others c.or_into.new.self c.or_into-2.new.self = propagated_keeps c.self.inside.others c.or_into.new.self c.or_into-2.new.self (back_row c.self.inside.others c.args.p) _ c.or_into-2.ensures.shape (back-propagated c) (omega (arith, c.requires.to)) in
    kept_more c.self.inside.invs.items c.self.inside.others c.self.inside.masked c.self.inside.rows c.or_into-2.new.self (keeps_then c.self.inside.others c.self.inside.rows c.or_into.new.self c.or_into-2.new.self one two)
    (λ off. taken_blank c.or_into.new.self c.or_into-2.new.self (back_row c.self.inside.others c.args.p) (back_row c.self.inside.others c.args.q) (back-propagated c) (taken_blank c.self.inside.rows c.or_into.new.self (fore_row c.self.inside.others c.args.p) (fore_row c.self.inside.others c.args.q) (fore-propagated c) off)) c.self.invariant

pub returns : goal.returns
returns c =
    subst (λ (old : Marks). IsTakenUp old (marks_in c.self.inside.invs.items c.self.inside.others c.or_into-2.new.self) c.args.p c.args.q) c.self.view_is
    (taken_up c.self.inside.invs.items c.self.inside.others c.self.inside.rows c.or_into.new.self c.or_into-2.new.self c.args.p c.args.q c.requires.to c.requires.from c.requires.apart (fore-propagated c) (back-propagated c))
