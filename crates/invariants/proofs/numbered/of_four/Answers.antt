use Rattle.std.proofs.Common.{◌≡◌, ◌+◌, ◌*◌, ◌-◌, ◌/◌, ◌%◌, ◌<◌, ◌∙◌, ap, sym, refl, inl, inr, arith}
use Rattle.std.proofs.Math.Nat.{div-add-mod}
use Rattle.std.specs.List.{slice_get}
use Rattle.invariants.specs.Candidates.{candidates_for}
use Rattle.invariants.specs.declared.Kinds.TheVariants.{Four}
use Rattle.invariants.proofs.FourPlaces.{IsColumn, four-at, row-of}
use Rattle.invariants.proofs.numbered.of_four.Goals as goal
use Rattle.invariants.proofs.numbered.of_four.Goals.{then-column-a, else-column-a}

pub returns : goal.returns
returns c =
    let row = 4 * c.args.types - 1 in
    let a = c.args.place / row in
    let column = c.args.place % row in
    let at : (a < c.args.types) × (column < row) = row-of c.args.types c.args.place c.requires.within in
    let is : IsColumn a c.if-column-a.whole column × (c.if-column-a.whole < 4 * c.args.types) =
    elim c.if-column-a.branch [
      | then-column-a w ↦ (inl (omega arith, sym w.whole-is), omega (arith, at.1, w.whole-is))
      | else-column-a w ↦ (inr (omega arith, sym w.whole-is), omega (arith, at.1, w.whole-is))
    ] in
    let parts : row * a + column ≡ c.args.place = div-add-mod c.args.place row in
    let place : a * row + column ≡ c.args.place = omega arith in
    let found = four-at c.args.types a c.if-column-a.whole column at.0 is.1 is.0 in
    ap (λ n. slice_get (candidates_for Four c.args.types) (c.args.types + n)) (sym place) ∙ (found ∙ rw c.kind_at.ensures refl)
