use Rattle.std.proofs.Common.{◌<◌, drop}
use Rattle.limits.specs.declared.TheConstants.{MAX_PARTITIONS}
use Rattle.bit_rows.specs.Tables.{HasShape}
use Rattle.replay_check.proofs.Marking.{AreLeft}
use Rattle.replay_check.proofs.edges.unmark_along.Given as goal

abbrev pub invariant-loop-id : goal.invariant-loop-id
invariant-loop-id l =
    record {
      within : l.before < MAX_PARTITIONS;
      shape : HasShape l.rows MAX_PARTITIONS MAX_PARTITIONS;
      left : AreLeft l.rows l.before (drop l.id-index l.ids);
    }
