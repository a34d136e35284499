use Rattle.std.proofs.Common.{◌≤◌, drop}
use Rattle.partition_model.specs.Graphs.{Merged}
use Rattle.model_check.specs.Rows.{shown}
use Rattle.partition_model.proofs.Breaking.{IsFollowing}
use Rattle.model_check.proofs.blocks.breaks.Given as goal

abbrev pub invariant-loop-id : goal.invariant-loop-id
invariant-loop-id l =
    record {
      bound : l.state ≤ 2;
      follows : IsFollowing (Merged (shown l.graph) l.p l.q) l.inv l.path (drop l.id-index l.id-items) l.before l.state;
    }
