use Rattle.std.proofs.Common.{◌-◌}
use Rattle.limits.specs.declared.TheConstants.{MAX_PARTITIONS}
use Rattle.model_check.proofs.Advancing.{IsAdvancing}
use Rattle.model_check.proofs.sets.advance_from_row.Given as goal

abbrev pub invariant-loop-p : goal.invariant-loop-p
invariant-loop-p l = IsAdvancing l.fn.rows l.rows l.set l.typ l.from

abbrev pub decreases-loop-p : goal.decreases-loop-p
decreases-loop-p l = MAX_PARTITIONS - l.from
