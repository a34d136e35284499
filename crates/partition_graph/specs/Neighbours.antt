-- The neighbours of an id in a graph, from a given id on.
use Rattle.std.specs.Prelude.{ℕ, ◌≡◌, ◌<◌, ◌≤◌, true, false}
use Rattle.partition_model.specs.Graphs.{Graph}

-- no id at or above this one has an edge to q
abbrev pub HasNoSource : Graph → ℕ → ℕ → Type 0
HasNoSource g q from = (p : ℕ) → from ≤ p → g.edge p q ≡ false

-- p is the least id at or above this one that has an edge to q
pub record IsNextSource (g : Graph) (q from p : ℕ) : Type 0 where
  pub reached : from ≤ p
  pub edge : g.edge p q ≡ true
  pub first : (r : ℕ) → from ≤ r → r < p → g.edge r q ≡ false

-- p has an edge to no id at or above this one
abbrev pub HasNoTarget : Graph → ℕ → ℕ → Type 0
HasNoTarget g p from = (q : ℕ) → from ≤ q → g.edge p q ≡ false

-- q is the least id at or above this one that p has an edge to
pub record IsNextTarget (g : Graph) (p from q : ℕ) : Type 0 where
  pub reached : from ≤ q
  pub edge : g.edge p q ≡ true
  pub first : (r : ℕ) → from ≤ r → r < q → g.edge p r ≡ false
