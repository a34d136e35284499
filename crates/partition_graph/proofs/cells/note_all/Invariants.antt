use Rattle.partition_graph.specs.Slots.{AreSlots}
use Rattle.partition_graph.proofs.Sharing.{HaveShared}
use Rattle.partition_graph.proofs.cells.note_all.Given as goal

abbrev pub invariant-loop-t : goal.invariant-loop-t
invariant-loop-t l = record { slots : AreSlots l.t l.slots.slots.items; shared : HaveShared l.traces l.t l.shared }
