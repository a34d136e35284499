-- The pairs of partitions of one type, in order.
use Rattle.std.specs.Prelude.{ℕ, ◌<◌, ◌≤◌}
use Rattle.limits.specs.declared.TheConstants.{FIRST_TYPE, MAX_PARTITIONS}
use Rattle.partition_model.specs.Graphs.{Graph}
use Rattle.partition_model.specs.Assignments.{IsTyped}
use Rattle.partition_model.specs.Listings.{AreBelow}
use Rattle.partition_model.specs.Coarsening.{IsPair, PairBefore}
use Rattle.partition_graph.specs.Parts.{Parts}

-- no id from this one on forms a pair with p
abbrev pub HasNoPartner : Graph → ℕ → ℕ → Type 0
HasNoPartner g p from = (q : ℕ) → from ≤ q → IsPair g p q → ⊥

-- q is the lowest id from this one on that forms a pair with p
pub record IsNextPartner (g : Graph) (p from q : ℕ) : Type 0 where
  pub pair : IsPair g p q
  pub reached : from ≤ q
  pub first : (r : ℕ) → from ≤ r → r < q → IsPair g p r → ⊥

-- no pair comes after (p, q)
abbrev pub HasNoPairBehind : Graph → ℕ → ℕ → Type 0
HasNoPairBehind g p q = (r s : ℕ) → IsPair g r s → PairBefore p q r s → ⊥

-- (r, s) is the first pair after (p, q)
pub record IsNextPair (g : Graph) (p q r s : ℕ) : Type 0 where
  pub pair : IsPair g r s
  pub behind : PairBefore p q r s
  pub first : (u v : ℕ) → IsPair g u v → PairBefore p q u v → PairBefore u v r s → ⊥

-- each id has one type, and is below the number of ids
pub record HasIds (parts : Parts) : Type 0 where
  pub typed : IsTyped parts.traces
  pub below : AreBelow parts.used parts.traces
  pub two : FIRST_TYPE ≤ parts.used
  pub limit : parts.used ≤ MAX_PARTITIONS
