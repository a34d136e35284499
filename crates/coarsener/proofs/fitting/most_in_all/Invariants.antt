use Rattle.std.proofs.Common.{◌≤◌, ◌<◌, ◌+◌, ◌-◌, ◌*◌}
use Rattle.limits.specs.declared.TheConstants.{FIRST_TYPE, MAX_PARTITIONS}
use Rattle.coarsener.specs.Pairs.{HasIds}
use Rattle.coarsener.proofs.BlockSums.{IsSumming}
use Rattle.coarsener.proofs.fitting.most_in_all.Given as goal

abbrev pub invariant-loop-pair : goal.invariant-loop-pair
invariant-loop-pair l =
    record {
      low : FIRST_TYPE ≤ l.at.p;
      order : l.at.p ≤ l.at.q;
      limit : l.at.q < MAX_PARTITIONS;
      run : HasIds l.graph → IsSumming l.known l.graph l.at.p l.at.q l.most;
    }

abbrev pub decreases-loop-pair : goal.decreases-loop-pair
decreases-loop-pair l = (MAX_PARTITIONS - l.at.p) * MAX_PARTITIONS + (MAX_PARTITIONS - l.at.q)
