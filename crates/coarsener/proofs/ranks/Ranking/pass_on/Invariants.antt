use Rattle.std.proofs.Common.{◌≤◌, ◌-◌}
use Rattle.limits.specs.declared.TheConstants.{MAX_PARTITIONS}
use Rattle.coarsener.proofs.ranks.Ranking.pass_on.Given as goal

abbrev pub invariant-loop-to : goal.invariant-loop-to
invariant-loop-to l = l.reached ≤ MAX_PARTITIONS

abbrev pub decreases-loop-to : goal.decreases-loop-to
decreases-loop-to l = MAX_PARTITIONS - l.reached
