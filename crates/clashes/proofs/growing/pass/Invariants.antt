use Rattle.std.proofs.Common.{◌≡◌, length}
use Rattle.limits.specs.declared.TheConstants.{MAX_PARTITIONS}
use Rattle.partition_model.specs.Assignments.{G}
use Rattle.clashes.specs.Growing.{as_passed}
use Rattle.clashes.proofs.Passing.{IsPassing}
use Rattle.clashes.proofs.growing.pass.Given as goal

abbrev pub invariant-loop-done : goal.invariant-loop-done
invariant-loop-done l =
    IsPassing (G l.graph.traces) l.fn.mark_rows l.mark_rows l.changed (as_passed l.from_end l.links) l.recent l.now l.done × (length l.now ≡ MAX_PARTITIONS)
