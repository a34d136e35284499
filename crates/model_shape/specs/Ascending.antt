-- Lists that ascend, and the orders in which the lists of a model do.
use Rattle.std.specs.Prelude.{◌≡◌, ℕ, ◌<◌, ◌⊎◌, List, [], ◌∷◌, slice_get, Some}
use Rattle.invariants.specs.declared.Invariant.{Invariant}
use Rattle.invariants.specs.declared.Kinds.{Kinds}
use Rattle.invariants.specs.declared.records.Partition.{Partition}
use Rattle.invariants.specs.declared.records.Edge.{Edge}
use Rattle.invariants.specs.declared.records.Block.{Block}
use Rattle.invariants.specs.Candidates.{candidates_for}

-- k is before the first item of the list, if there is one
abbrev pub LeadsTo : {K : Type 0} → (K → K → Type 0) → K → List K → Type 0
LeadsTo Before k [] = Unit {0}
LeadsTo Before k (l ∷ ls) = Before k l

-- each item is before the next one
abbrev pub Ascends : {K : Type 0} → (K → K → Type 0) → List K → Type 0
Ascends Before [] = Unit {0}
Ascends Before (k ∷ ks) = LeadsTo Before k ks × Ascends Before ks

-- partitions by their ids
abbrev pub PartitionBefore : Partition → Partition → Type 0
PartitionBefore x y = x.id < y.id

-- edges by the ids that they leave, and then by those that they enter
abbrev pub EdgeBefore : Edge → Edge → Type 0
EdgeBefore x y = (x.from < y.from) ⊎ ((x.from ≡ y.from) × (x.to < y.to))

-- blocks by their lower ids, and then by their higher ones
abbrev pub BlockBefore : Block → Block → Type 0
BlockBefore x y = (x.p < y.p) ⊎ ((x.p ≡ y.p) × (x.q < y.q))

-- invariants by their places among the candidates of these kinds for this many types
pub record CandidateBefore (kinds : Kinds) (types : ℕ) (x y : Invariant) : Type 0 where
  pub place : ℕ
  pub later : ℕ
  pub here : slice_get (candidates_for kinds types) place ≡ Some x
  pub there : slice_get (candidates_for kinds types) later ≡ Some y
  pub order : place < later

-- each item is before all later ones
abbrev pub IsInOrder : {K : Type 0} → (K → K → Type 0) → List K → Type 0
IsInOrder {K} Before ks =
    (i j : ℕ) (x y : K) → slice_get ks i ≡ Some x → slice_get ks j ≡ Some y → i < j → Before x y

-- a list of a model that ascends is in order throughout
pub record AscendingTells : Type 0 where
  pub partitions : (xs : List Partition) → Ascends PartitionBefore xs → IsInOrder PartitionBefore xs
  pub edges : (xs : List Edge) → Ascends EdgeBefore xs → IsInOrder EdgeBefore xs
  pub invariants : (kinds : Kinds) (types : ℕ) (xs : List Invariant)
      → Ascends (CandidateBefore kinds types) xs → IsInOrder (CandidateBefore kinds types) xs
  pub blocks : (xs : List Block) → Ascends BlockBefore xs → IsInOrder BlockBefore xs
