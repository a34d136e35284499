use Rattle.std.proofs.Common.{◌+◌, ◌*◌}
use Rattle.partition_graph.proofs.Marking.{blank_rows}
use Rattle.limits.specs.declared.TheConstants.{MAX_PARTITIONS}
use Rattle.partition_graph.proofs.id_rows.IdRows.make.Goals as goal

pub invariant_of-result : goal.invariant_of-result
invariant_of-result c =
    record {
      rows_shape = c.in_ok-rows.ensures.shape;
      filled_shape = c.in_ok-filled.ensures.shape;
      blank = λ r w k low word bit off. blank_rows c.in_ok-rows.rows MAX_PARTITIONS MAX_PARTITIONS r (w * 64 + k) c.in_ok-rows.ensures.rows low;
    }
