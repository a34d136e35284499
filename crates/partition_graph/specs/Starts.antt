-- The first assignment of a log.
use Rattle.std.specs.Prelude.{List}
use Rattle.traces.specs.Words.{Event, log_of}
use Rattle.partition_model.specs.Assignments.{inner_words}
use Rattle.partition_model.specs.Laws.{AreTyped}
use Rattle.partition_graph.specs.Parts.{Parts, start_of}

-- each event has the number of a type, and each type's number occurs
abbrev pub AreTypedParts : Parts → Type 0
AreTypedParts parts = AreTyped (inner_words parts.traces) parts.used

-- this holds in the first assignment of each log
abbrev pub StartsAreTyped : Type 0
StartsAreTyped = (events : List Event) → AreTypedParts (start_of (log_of events))
