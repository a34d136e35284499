-- The invariants of a list that a graph satisfies.
use Rattle.std.proofs.Common.{◌≡◌, ℕ, zero, suc, List, [], ◌∷◌, Some, subst}
use Rattle.std.specs.List.{slice_get}
use Rattle.invariants.specs.declared.Invariant.{Invariant}
use Rattle.partition_model.specs.Graphs.{Graph, Satisfies}
use Rattle.partition_model.specs.Refinement.{SatisfiesAll}

-- an invariant of a list that is satisfied, by its number
pub all_at : (g : Graph) (invs : List Invariant) (k : ℕ) (inv : Invariant) → slice_get invs k ≡ Some inv → SatisfiesAll g invs → Satisfies g inv
all_at g [] k inv e a = absurd (cc e)
all_at g (i ∷ invs) zero inv e a = let q : i ≡ inv = cc in subst (λ (z : Invariant). Satisfies g z) q a.0
all_at g (i ∷ invs) (suc k) inv e a = all_at g invs k inv e a.1
