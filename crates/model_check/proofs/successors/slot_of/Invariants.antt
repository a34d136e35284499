use Rattle.std.proofs.Common.{◌<◌}
use Rattle.model_check.specs.declared.successors.TheConstants.{SLOTS}
use Rattle.model_check.proofs.successors.slot_of.Given as goal

abbrev pub invariant-loop-i : goal.invariant-loop-i
invariant-loop-i l = l.slot < SLOTS
