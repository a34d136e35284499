use Rattle.std.proofs.Common.{◌≡◌, [], get_or}
use Rattle.partition_graph.specs.Parts.{inner_words_of}
use Rattle.partition_graph.specs.Slots.{HaveOthers}
use Rattle.partition_graph.proofs.word_slots.WordSlots.earlier_with.Given as goal

abbrev pub invariant-loop-place : goal.invariant-loop-place
invariant-loop-place l =
    record {
      same : l.self.slots.items ≡ l.fn.self.slots.items;
      others : HaveOthers (inner_words_of l.traces) l.fn.self.slots.items l.home l.place (get_or (inner_words_of l.traces) l.t []);
    }
