-- `graph`: the graph of a log with one partition per type.
use Rattle.std.specs.Prelude.{ℕ, ◌≡◌, ◌≤◌, List, map, Some, Result, Ok}
use Rattle.std.specs.List.{AllByRecursion}
use Rattle.limits.specs.declared.TheConstants.{FIRST_TYPE}
use Rattle.traces.specs.Words.{Log, words_of}
use Rattle.partition_model.specs.Graphs.{Accepts}
use Rattle.partition_model.specs.Assignments.{AllEvents, G, word_of}
use Rattle.partition_model.specs.Listings.{ArePartitions, AreEdges, partition_of, partitions_below, edges_below}
use Rattle.partition_graph.specs.Parts.{Parts, start_of}
use Rattle.reports.specs.Reports.{graph_report, partition_with}
use Rattle.synoptic_cli.specs.declared.answer.Answer.{Answer}
use Rattle.synoptic_cli.specs.declared.material.Material.{Material}
use Rattle.synoptic_cli.specs.declared.status.LimitKind.{LimitKind}
use Rattle.synoptic_cli.specs.Commands.Answered.{done}
use Rattle.synoptic_cli.specs.Commands.TypeNames.{HasText}

-- the text of a graph: its edges, with ids and counts
abbrev pub parts_report : List (List ℕ) → Parts → List ℕ
parts_report types parts =
    graph_report types (partitions_below parts.used parts.traces) (edges_below parts.used parts.traces)

-- a search of the listed partitions finds the one with this id
abbrev pub IsFound : Log → ℕ → Type 0
IsFound log id =
    partition_with (partitions_below (start_of log).used (start_of log).traces) id
    ≡ Some (partition_of (start_of log).traces id)

-- the listed partitions and edges are exactly those of an assignment of the log's words in which each event has its
-- type's number as its id; and the graph accepts each word of the log
pub record ShowsExactly (log : Log) : Type 0 where
  pub words : map word_of (start_of log).traces ≡ words_of log
  pub by_type : AllEvents (λ e. e.id ≡ e.typ) (start_of log).traces
  pub partitions : ArePartitions (partitions_below (start_of log).used (start_of log).traces)
      (start_of log).traces
  pub edges : AreEdges (edges_below (start_of log).used (start_of log).traces) (start_of log).traces
  pub accepted : AllByRecursion (Accepts (G (start_of log).traces)) (words_of log)
  -- for each listed edge, both of its partitions are found
  pub ends : AllByRecursion (λ e. IsFound log e.from × IsFound log e.to)
      (edges_below (start_of log).used (start_of log).traces)
  -- the type of each listed partition, except the two ends, has a text
  pub named : AllByRecursion (λ p. FIRST_TYPE ≤ p.id → HasText log.types p.typ)
      (partitions_below (start_of log).used (start_of log).traces)

-- the answer: the graph of the log's first assignment, one edge per line, shown exactly
pub record Answers (m : Material) (r : Result Answer LimitKind) : Type 0 where
  pub value : r ≡ Ok (done (parts_report m.log.types (start_of m.log)))
  pub exact : ShowsExactly m.log
