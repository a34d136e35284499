-- The candidates of three and of four kinds.
use Rattle.std.proofs.Common.{◌≡◌, ℕ, ◌⊎◌, length, ⊎_elim}
use Rattle.std.specs.List.{slice_get}
use Rattle.std.specs.Prelude.{Some}
use Rattle.invariants.specs.declared.Kinds.{Kinds}
use Rattle.invariants.specs.declared.Kinds.TheVariants.{Three, Four}
use Rattle.invariants.specs.declared.Invariant.{Invariant}
use Rattle.invariants.specs.Candidates.{candidates_for, candidate_total, IsFirst, IsPair}
use Rattle.invariants.proofs.CandidatePlaces.{length-candidates, three-shape, three-differ}
use Rattle.invariants.proofs.FourPlaces.{length-four, four-shape, four-differ}

-- how many there are
pub length-total : (kinds : Kinds) (count : ℕ) → length (candidates_for kinds count) ≡ candidate_total kinds count
length-total Three count = length-candidates count
length-total Four count = length-four count

-- one says that each trace has a type, or is of two types
pub candidate-shape : (kinds : Kinds) (count index : ℕ) (inv : Invariant) → slice_get (candidates_for kinds count) index ≡ Some inv → IsFirst count inv ⊎ IsPair kinds count inv
candidate-shape Three = three-shape
candidate-shape Four = four-shape

-- no other is one
pub no-candidate : (kinds : Kinds) (count : ℕ) (inv : Invariant) → (IsFirst count inv → ⊥) → (IsPair kinds count inv → ⊥) → (index : ℕ) → slice_get (candidates_for kinds count) index ≡ Some inv → ⊥
no-candidate kinds count inv first pair index at = ⊎_elim first pair (candidate-shape kinds count index inv at)

-- no invariant stands at two places
pub candidates-differ : (kinds : Kinds) (count j k : ℕ) (inv : Invariant) → slice_get (candidates_for kinds count) j ≡ Some inv → slice_get (candidates_for kinds count) k ≡ Some inv → j ≡ k
candidates-differ Three = three-differ
candidates-differ Four = four-differ
