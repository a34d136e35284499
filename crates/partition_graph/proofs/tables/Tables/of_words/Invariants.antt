use Rattle.std.proofs.Common.{◌+◌, length}
use Rattle.partition_graph.specs.Parts.{inner_words_of}
use Rattle.partition_graph.proofs.CountedWords.{IsCountedTo}
use Rattle.partition_graph.proofs.tables.Tables.of_words.Given as goal

abbrev pub invariant-loop-t : goal.invariant-loop-t
invariant-loop-t l = IsCountedTo (length l.traces.types + 2) (inner_words_of l.traces) l.t l.tables
