-- The orders of the lists that inference makes, in the words of a well-shaped model.
use Rattle.std.proofs.Common.{◌≡◌, ℕ, suc, ◌≤◌, List, [], ◌∷◌, Some, arith, inl, inr}
use Rattle.std.specs.List.{slice_get}
use Rattle.invariants.specs.declared.Invariant.{Invariant}
use Rattle.invariants.specs.declared.records.Partition.{Partition}
use Rattle.invariants.specs.declared.records.Edge.{Edge}
use Rattle.invariants.specs.declared.records.Block.{Block}
use Rattle.invariants.specs.declared.Kinds.{Kinds}
use Rattle.invariants.specs.Candidates.{candidates_for}
use Rattle.partition_model.specs.Listings.{AscendIds, AscendEdges}
use Rattle.partition_model.specs.Coarsening.{AscendFrom}
use Rattle.model_shape.specs.Ascending.{LeadsTo, Ascends, PartitionBefore, EdgeBefore, BlockBefore, CandidateBefore}

-- each is the entry of some number, of which the first is not below the bound and each is above the one before it
abbrev pub AscendAmong : List Invariant → ℕ → List Invariant → Type 0
AscendAmong among low [] = Unit {0}
AscendAmong among low (inv ∷ invs) = (k : ℕ) × (low ≤ k) × (slice_get among k ≡ Some inv) × AscendAmong among (suc k) invs

-- where ids ascend from above that of a partition, the next one comes after it
first-id : (low : ℕ) (x : Partition) (xs : List Partition) → suc x.id ≤ low → AscendIds low xs → LeadsTo PartitionBefore x xs
first-id low x [] l a = tt
first-id low x (y ∷ ys) l a = let b : low ≤ y.id = a.0 in omega (arith, l, b)

-- partitions whose ids ascend stand in their order
pub ids-ascend : (low : ℕ) (xs : List Partition) → AscendIds low xs → Ascends PartitionBefore xs
ids-ascend low [] a = tt
ids-ascend low (x ∷ xs) a = (first-id (suc x.id) x xs (omega arith) a.1, ids-ascend (suc x.id) xs a.1)

-- where edges ascend from behind an edge, the next one comes after it
first-edge : (x : Edge) (xs : List Edge) → AscendEdges x.from (suc x.to) xs → LeadsTo EdgeBefore x xs
first-edge x [] a = tt
first-edge x (y ∷ ys) a = elim (a.0) [
  | inl l ↦ inl l
  | inr e ↦ inr (e.0, let l : suc x.to ≤ y.to = e.1 in omega (arith, l))
]

-- edges that ascend stand in their order
pub edges-ascend : (p q : ℕ) (xs : List Edge) → AscendEdges p q xs → Ascends EdgeBefore xs
edges-ascend p q [] a = tt
edges-ascend p q (x ∷ xs) a = (first-edge x xs a.1, edges-ascend x.from (suc x.to) xs a.1)

-- where blocks ascend from a block on, the next one comes after it
first-block : (x : Block) (xs : List Block) → AscendFrom x.p x.q xs → LeadsTo BlockBefore x xs
first-block x [] a = tt
first-block x (y ∷ ys) a = a.0

-- blocks that ascend stand in their order
pub blocks-ascend : (p q : ℕ) (xs : List Block) → AscendFrom p q xs → Ascends BlockBefore xs
blocks-ascend p q [] a = tt
blocks-ascend p q (x ∷ xs) a = (first-block x xs a.1, blocks-ascend x.p x.q xs a.1)

-- where invariants ascend from behind a candidate, the next one comes after it
first-candidate : (kinds : Kinds) (types k : ℕ) (x : Invariant) (xs : List Invariant) → slice_get (candidates_for kinds types) k ≡ Some x → AscendAmong (candidates_for kinds types) (suc k) xs → LeadsTo (CandidateBefore kinds types) x xs
first-candidate kinds types k x [] e a = tt
first-candidate kinds types k x (y ∷ ys) e a = let l : suc k ≤ a.0 = a.1 in record { place = k; later = a.0; here = e; there = a.2; order = omega (arith, l) }

-- invariants that ascend among the candidates stand in their order
pub candidates-ascend : (kinds : Kinds) (types low : ℕ) (xs : List Invariant) → AscendAmong (candidates_for kinds types) low xs → Ascends (CandidateBefore kinds types) xs
candidates-ascend kinds types low [] a = tt
candidates-ascend kinds types low (x ∷ xs) a = (first-candidate kinds types a.0 x xs a.2 a.3, candidates-ascend kinds types (suc a.0) xs a.3)
