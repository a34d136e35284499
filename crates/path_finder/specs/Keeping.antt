-- Which ids a search for the paths of some ids keeps.
use Rattle.std.specs.Prelude.{ℕ, ◌≡◌, Bool, true, List}
use Rattle.invariants.specs.declared.Invariant.{Invariant}
use Rattle.partition_model.specs.Graphs.{Graph, IsPath, Breaks}
use Rattle.path_finder.specs.declared.reach.Way.TheVariants.{Ahead, Behind}
use Rattle.path_finder.specs.Nearness.{narrowed, IsReachedFrom}
use Rattle.path_finder.specs.Reaching.{edge_by}

-- the ids that walks from these lead to are kept, and those from which walks lead to one of these
pub record KeepsAround (kept : ℕ → Bool) (g : Graph) (starts : ℕ → Bool) : Type 0 where
  pub ahead : ℕ → Bool
  pub behind : ℕ → Bool
  pub reaches : IsReachedFrom ahead starts (edge_by Ahead g)
  pub comes : IsReachedFrom behind starts (edge_by Behind g)
  pub keeps_ahead : (u : ℕ) → ahead u ≡ true → kept u ≡ true
  pub keeps_behind : (u : ℕ) → behind u ≡ true → kept u ≡ true

-- each path that breaks the invariant has its edges looked at
abbrev pub KeepsViolations : (ℕ → Bool) → Graph → Invariant → Type 0
KeepsViolations kept g inv = (path : List ℕ) → Breaks g inv path → IsPath (narrowed kept g) path
