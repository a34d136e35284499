-- Pairs of partitions in order, compared with the blocks.
use Rattle.std.specs.Prelude.{ℕ, ◌≡◌, ◌<◌, ◌≤◌, List, slice_get, Some}
use Rattle.invariants.specs.declared.records.Partition.{Partition}
use Rattle.invariants.specs.declared.records.Block.{Block}
use Rattle.invariants.specs.declared.records.Model.{Model}
use Rattle.partition_model.specs.Coarsening.{IsPair, PairBefore}
use Rattle.models.specs.Checks.{IsBlocked}
use Rattle.models.specs.Models.{graph_of}

-- the pair of each block before the place `next` is before this pair
abbrev pub AreBefore : List Block → ℕ → ℕ → ℕ → Type 0
AreBefore blocks next p q =
    (k : ℕ) (b : Block) → slice_get blocks k ≡ Some b → k < next → PairBefore b.p b.q p q

-- each block before the place `next` has a lower first id than the partitions from the place i on
abbrev pub IsReached : Model → ℕ → ℕ → Type 0
IsReached m next i =
    (j : ℕ) (x : Partition) → slice_get m.partitions j ≡ Some x → i ≤ j
    → (k : ℕ) (b : Block) → slice_get m.blocks k ≡ Some b → k < next → b.p < x.id

-- the first pair that no block keeps apart
pub record IsFirstOpen (m : Model) (p q : ℕ) : Type 0 where
  pub pair : IsPair (graph_of m) p q
  pub stands_open : IsBlocked m p q → ⊥
  pub first : (r s : ℕ) → IsPair (graph_of m) r s → PairBefore r s p q → IsBlocked m r s

-- the least id of a pair with p that no block keeps apart
pub record IsFirstWith (m : Model) (p q : ℕ) : Type 0 where
  pub pair : IsPair (graph_of m) p q
  pub stands_open : IsBlocked m p q → ⊥
  pub first : (s : ℕ) → IsPair (graph_of m) p s → s < q → IsBlocked m p s
