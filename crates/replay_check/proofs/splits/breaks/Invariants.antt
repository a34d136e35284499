use Rattle.std.proofs.Common.{◌≤◌, ◌<◌, drop}
use Rattle.limits.specs.declared.TheConstants.{MAX_PARTITIONS}
use Rattle.replay_check.specs.Shown.{graph_in}
use Rattle.partition_model.proofs.Breaking.{IsFollowing}
use Rattle.replay_check.proofs.splits.breaks.Given as goal

abbrev pub invariant-loop-id : goal.invariant-loop-id
invariant-loop-id l =
    record {
      bound : l.state ≤ 2;
      within : l.before < MAX_PARTITIONS;
      follows : IsFollowing (graph_in l.edges.rows l.types) l.inv l.path (drop l.id-index l.id-items) l.before l.state;
    }
