-- The first number above all that are named.
use Rattle.std.proofs.Common.{◌≡◌, ℕ, ◌+◌, ◌<◌, ◌≤◌, max, List, length, take, get_or, arith}
use Rattle.std.specs.List.{All}
use Rattle.std.proofs.lemmas.List.Elements.{All-more}
use Rattle.invariants.specs.declared.Invariant.{Invariant}
use Rattle.clashes.specs.Rules.{AreNamedBelow}

-- the names of one more invariant are below a number that is above its own and no less than the bound of the others
pub named_more : (invs : List Invariant) (i : ℕ) (d : Invariant) (low high greatest : ℕ) → i < length invs → AreNamedBelow low (take i invs) → low ≤ high
    → greatest ≡ max (get_or invs i d).a (get_or invs i d).b → greatest < high → AreNamedBelow high (take (i + 1) invs)
named_more invs i d low high greatest l have more is above =
    let P : Invariant → Type 0 = λ inv. (inv.a < high) × (inv.b < high) in
    let old : All P (take i invs) = λ k e h. (omega (arith, (have k e h).0), omega (arith, (have k e h).1)) in
    let here : P (get_or invs i d) = (omega arith, omega arith) in
    All-more P invs i d l old here
