use Rattle.std.proofs.Common.{◌≡◌, ℕ, length, subst, arith}
use Rattle.bit_rows.specs.Tables.{row_at}
use Rattle.clashes.specs.Marks.{Marks}
use Rattle.clashes.specs.Layout.{fore_row, back_row, row_count, marks_in}
use Rattle.clashes.specs.Changes.{IsUnmarked}
use Rattle.clashes.proofs.Bits.{IsCleared, clear_done}
use Rattle.clashes.proofs.Laid.{KeepsMasks, cleared_keeps, keeps_then, unmarked}
use Rattle.clashes.proofs.Kept.{cleared_blank, kept_more}
use Rattle.clashes.proofs.mark_rows.MarkRows.unmark.Goals as goal

fore-cleared : (c : goal.After-clear-2) → IsCleared c.self.inside.rows c.clear.new.self (fore_row c.self.inside.others c.args.p)
fore-cleared c =
    subst (λ (r : ℕ). IsCleared c.self.inside.rows c.clear.new.self r) c.fore_row.ensures
    (clear_done c.self.inside.rows c.clear.new.self c.fore_row.result (length (row_at c.self.inside.rows c.fore_row.result)) (omega (arith, c.self.invariant.shape.count, c.fore_row.ensures, c.requires)) c.clear.ensures.rows)

back-cleared : (c : goal.After-clear-2) → IsCleared c.clear.new.self c.clear-2.new.self (back_row c.self.inside.others c.args.p)
back-cleared c =
    let count : length c.clear.new.self ≡ row_count c.self.inside.others = (c.clear.ensures.shape _ _ c.self.invariant.shape).count in
    subst (λ (r : ℕ). IsCleared c.clear.new.self c.clear-2.new.self r) c.back_row.ensures
    (clear_done c.clear.new.self c.clear-2.new.self c.back_row.result (length (row_at c.clear.new.self c.back_row.result)) (omega (arith, count, c.back_row.ensures, c.requires)) c.clear-2.ensures.rows)

pub invariant_of-self : goal.invariant_of-self
invariant_of-self c =
    let one : KeepsMasks c.self.inside.others c.self.inside.rows c.clear.new.self = cleared_keeps c.self.inside.others c.self.inside.rows c.clear.new.self (fore_row c.self.inside.others c.args.p) c.clear.ensures.shape (fore-cleared c) (omega (arith, c.requires)) in
    let two : KeepsMasks c.self.inside.others c.clear.new.self c.clear-2.new.self = cleared_keeps c.self.inside.others c.clear.new.self c.clear-2.new.self (back_row c.self.inside.others c.args.p) c.clear-2.ensures.shape (back-cleared c) (omega (arith, c.requires)) in
    kept_more c.self.inside.invs.items c.self.inside.others c.self.inside.masked c.self.inside.rows c.clear-2.new.self (keeps_then c.self.inside.others c.self.inside.rows c.clear.new.self c.clear-2.new.self one two)
    (λ off. cleared_blank c.clear.new.self c.clear-2.new.self (back_row c.self.inside.others c.args.p) (back-cleared c) (cleared_blank c.self.inside.rows c.clear.new.self (fore_row c.self.inside.others c.args.p) (fore-cleared c) off)) c.self.invariant

pub returns : goal.returns
returns c =
    subst (λ (old : Marks). IsUnmarked old (marks_in c.self.inside.invs.items c.self.inside.others c.clear-2.new.self) c.args.p) c.self.view_is
    (unmarked c.self.inside.invs.items c.self.inside.others c.self.inside.rows c.clear.new.self c.clear-2.new.self c.args.p c.requires (fore-cleared c) (back-cleared c))
