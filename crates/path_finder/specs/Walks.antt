-- Pairs of an id and a state of the monitor, and the walks from them that end badly.
use Rattle.std.specs.Prelude.{◌≡◌, ℕ, ◌<◌, ◌≤◌, true, List, length}
use Rattle.limits.specs.declared.TheConstants.{TERMINAL}
use Rattle.invariants.specs.declared.Invariant.{Invariant}
use Rattle.invariants.specs.Monitors.{step, run, is_bad}
use Rattle.partition_model.specs.Graphs.{Graph, Walk, word, IsBefore, IsLeastViolation}
use Rattle.path_finder.specs.declared.pair.Pair.{Pair}

-- what is asked: an invariant, and a graph whose ids are below this number
pub record Asked : Type 0 where
  pub graph : Graph
  pub inv : Invariant
  pub ids : ℕ

-- the path is the least violation of the invariant in the graph
abbrev pub IsLeastOf : Asked → List ℕ → Type 0
IsLeastOf a path = IsLeastViolation a.graph a.inv path

-- the state after the monitor reads the type of q in the state s
abbrev pub state_at : Asked → ℕ → ℕ → ℕ
state_at a s q = step a.inv s (a.graph.typ q)

-- the pair has an id in use and one of the three states
pub record IsPairOf (a : Asked) (r : Pair) : Type 0 where
  pub id : r.id < a.ids
  pub state : r.state < 3

-- an edge leads from p's id to q's id, and the monitor steps from p's state to q's state
pub record Leads (a : Asked) (p q : Pair) : Type 0 where
  pub edge : a.graph.edge p.id q.id ≡ true
  pub step : state_at a p.state q.id ≡ q.state

-- a walk from the pair's id to TERMINAL that takes the monitor from the pair's state to its bad state
pub record EndsBadly (a : Asked) (r : Pair) (xs : List ℕ) : Type 0 where
  pub walk : Walk a.graph r.id xs TERMINAL
  pub bad : is_bad a.inv (run a.inv r.state (word a.graph xs)) ≡ true

-- there is such a walk of k edges
abbrev pub Finishes : Asked → Pair → ℕ → Type 0
Finishes a r k = (xs : List ℕ) × (length xs ≡ k) × EndsBadly a r xs

-- the shortest walk from the pair that ends badly, and the first of those of equal length
pub record IsLeastWalk (a : Asked) (r : Pair) (xs : List ℕ) : Type 0 where
  pub ends : EndsBadly a r xs
  pub shortest : (ys : List ℕ) → EndsBadly a r ys → length xs ≤ length ys
  pub first : (ys : List ℕ) → EndsBadly a r ys → length ys ≡ length xs → IsBefore ys xs → ⊥
