-- The pairs that lead to others.
use Rattle.std.specs.Prelude.{ℕ, ◌≡◌, ◌<◌, ◌⊎◌, true}
use Rattle.limits.specs.declared.TheConstants.{MAX_PARTITIONS}
use Rattle.path_finder.specs.declared.pair.Pair.{Pair}
use Rattle.path_finder.specs.declared.pair_set.PairSet.{PairSet}
use Rattle.path_finder.specs.Walks.{Asked, IsPairOf, Leads}
use Rattle.path_finder.specs.PairSets.{has_pair}

-- the set has the pair
pub record IsPairIn (s : PairSet) (r : Pair) : Type 0 where
  pub state : r.state < 3
  pub id : r.id < MAX_PARTITIONS
  pub has : has_pair s r ≡ true

-- the pairs with such a state that lead to q were added, and no other
pub record HasSourcesIn (a : Asked) (states : ℕ → Type 0) (q : Pair) (old new : PairSet) : Type 0 where
  pub kept : (p : Pair) → has_pair old p ≡ true → has_pair new p ≡ true
  pub all : (p : Pair) → IsPairOf a p → states p.state → Leads a p q → has_pair new p ≡ true
  pub others : (p : Pair) → p.id < MAX_PARTITIONS → has_pair new p ≡ true
      → (has_pair old p ≡ true) ⊎ Leads a p q

-- the pairs that lead to one of these were added, and no other
pub record HasSourcesOf (a : Asked) (these : Pair → Type 0) (old new : PairSet) : Type 0 where
  pub kept : (p : Pair) → has_pair old p ≡ true → has_pair new p ≡ true
  pub all : (p q : Pair) → these q → IsPairOf a p → Leads a p q → has_pair new p ≡ true
  pub others : (p : Pair) → p.id < MAX_PARTITIONS → has_pair new p ≡ true
      → (has_pair old p ≡ true) ⊎ ((q : Pair) × these q × Leads a p q)
