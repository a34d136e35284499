use Rattle.std.proofs.Common.{◌≡◌, ◌≤◌, ◌-◌, ◌^◌}
use Rattle.limits.specs.declared.TheConstants.{MAX_PARTITIONS}
use Rattle.partition_model.specs.Assignments.{G}
use Rattle.coarsener.specs.Fitting.{fall_to}
use Rattle.coarsener.proofs.ranks.fall_to.Given as goal

abbrev pub invariant-loop-from : goal.invariant-loop-from
invariant-loop-from l =
    record {
      limit : l.reached ≤ MAX_PARTITIONS;
      reached : l.reached ≤ l.graph.used;
      value : l.fall ≡ fall_to l.ranks (G l.graph.traces) l.p l.reached;
      within : l.fall ≤ 2 ^ 32;
    }

abbrev pub decreases-loop-from : goal.decreases-loop-from
decreases-loop-from l = MAX_PARTITIONS - l.reached
