use Rattle.std.proofs.Common.{length, ◌-◌}
use Rattle.model_check.specs.Pairs.{AreBefore}
use Rattle.model_check.proofs.blocks.skip_before.Given as goal

abbrev pub invariant-loop-next : goal.invariant-loop-next
invariant-loop-next l = AreBefore l.blocks l.next l.p l.q

abbrev pub decreases-loop-next : goal.decreases-loop-next
decreases-loop-next l = length l.blocks - l.next
