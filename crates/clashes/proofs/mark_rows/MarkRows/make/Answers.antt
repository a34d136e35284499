use Rattle.std.proofs.Common.{◌≡◌, ℕ, true, false, List, length, sym, subst}
use Rattle.invariants.specs.declared.Invariant.{Invariant}
use Rattle.bit_rows.specs.Tables.{HasShape}
use Rattle.clashes.specs.Layout.{IsKept}
use Rattle.clashes.proofs.Kept.{nothing_on}
use Rattle.clashes.proofs.mark_rows.MarkRows.make.Goals as goal

pub invariant_of-result : goal.invariant_of-result
invariant_of-result c =
    let kept : IsKept c.args.invs.now c.first_unnamed-others.result false c.in_ok-rows.rows = record {
      shape = subst (λ (n : ℕ). HasShape c.in_ok-rows.rows n (length c.args.invs.now)) c.row_count.ensures c.in_ok-rows.ensures.shape;
      few = c.requires.few;
      low = c.first_unnamed-others.ensures.within;
      named = c.first_unnamed-others.ensures.named;
      columns = λ hit. absurd (let z : false ≡ true = hit in cc);
      blank = λ miss r k. nothing_on c.in_ok-rows.rows _ _ r k c.in_ok-rows.ensures.rows;
    } in
    subst (λ (invs : List Invariant). IsKept invs c.first_unnamed-others.result false c.in_ok-rows.rows) (sym c.in_ok-list.ensures.items) kept
