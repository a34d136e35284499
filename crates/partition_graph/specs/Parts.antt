-- What contracts see of a partition graph.
use Rattle.std.specs.Prelude.{ℕ, ◌≡◌, ◌+◌, ◌<◌, true, List, length, map}
use Rattle.limits.specs.declared.TheConstants.{FIRST_TYPE, MAX_PARTITIONS}
use Rattle.traces.specs.Words.{Log}
use Rattle.partition_model.specs.Graphs.{Graph}
use Rattle.partition_model.specs.Assignments.{Assignment, by_type}
use Rattle.partition_model.specs.Refinement.{split}
use Rattle.partition_model.specs.Coarsening.{merge}

-- the traces, each event with the id of its partition; the ids in use are those below `used`
pub record Parts : Type 0 where
  pub traces : Assignment
  pub used : ℕ

-- the words of a log without their two ends
abbrev pub inner_words_of : Log → List (List ℕ)
inner_words_of log = map (λ trace. trace.events) log.traces

-- the first assignment of a log: one partition per type, with the type's number as its id
abbrev pub start_of : Log → Parts
start_of log = record { traces = by_type (inner_words_of log); used = length log.types + FIRST_TYPE }

-- the events of p that are directly followed by one of next get the first unused id
abbrev pub divided : ℕ → ℕ → Parts → Parts
divided p next parts = record { traces = split p next parts.used parts.traces; used = parts.used + 1 }

-- the events of q move to p; every used id still counts as used
abbrev pub joined : ℕ → ℕ → Parts → Parts
joined p q parts = record { traces = merge p q parts.traces; used = parts.used }

-- the id is in use and below the limit
abbrev pub IsUsed : Parts → ℕ → Type 0
IsUsed parts p = (p < parts.used) × (p < MAX_PARTITIONS)

-- both ends of every edge are below this number
abbrev pub HasEdgesBelow : Graph → ℕ → Type 0
HasEdgesBelow g n = (p q : ℕ) → g.edge p q ≡ true → (p < n) × (q < n)
