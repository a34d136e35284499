-- The types of ids.
use Rattle.std.specs.Prelude.{ℕ, ◌≡◌, ◌<◌, ◌==◌, if◌then◌else◌, List}
use Rattle.std.specs.List.{AllByRecursion}
use Rattle.limits.specs.declared.TheConstants.{MAX_PARTITIONS}
use Rattle.partition_graph.specs.declared.cells.Cell.{Cell}
use Rattle.partition_graph.specs.declared.tables.Tables.{Tables}
use Rattle.partition_graph.specs.Tables.{type_at, size_at}

-- each cell has the type given for its id
abbrev pub HaveTypes : (ℕ → ℕ) → List Cell → Type 0
HaveTypes types cells = AllByRecursion (λ c. c.typ ≡ types c.id) cells

-- each id with a size above 0 has the type given for it, and every other id has type 0
abbrev pub KnowsTypes : (ℕ → ℕ) → Tables → Type 0
KnowsTypes types t = (p : ℕ) → p < MAX_PARTITIONS → type_at t p ≡ (if size_at t p == 0 then 0 else types p)
