use Rattle.std.proofs.Common.{◌≡◌, ◌≤◌, ◌<◌, ◌+◌, ◌-◌, ◌*◌, false, length}
use Rattle.limits.specs.declared.TheConstants.{FIRST_TYPE, MAX_PARTITIONS}
use Rattle.run_history.specs.Records.{merges_of}
use Rattle.coarsener.specs.Marking.{owed, AreMarkedAs}
use Rattle.coarsener.proofs.MergingTurns.{IsCoarsening, IsCounted}
use Rattle.coarsener.proofs.merging.coarsen.Given as goal

abbrev pub invariant-loop-pair : goal.invariant-loop-pair
invariant-loop-pair g l =
    record {
      low : FIRST_TYPE ≤ l.at.p;
      order : l.at.p ≤ l.at.q;
      limit : l.at.q < MAX_PARTITIONS;
      list : l.planes.invs ≡ l.fn.planes.invs;
      marked : AreMarkedAs l.marked l.planes l.graph;
      others : l.run_log ≡ record l.fn.run_log { merges = l.run_log.merges };
      run : IsCoarsening l.fn.planes.invs l.fn.graph l.graph l.at.p l.at.q (merges_of l.run_log);
      more : l.fn.steps ≤ l.steps;
      counted : IsCounted l.fn.graph l.graph l.at.p l.at.q (length l.run_log.merges) l.apart;
      last : l.apart ≡ false → owed l.marked ≡ 1;
      once : l.steps + owed l.marked ≤ l.fn.steps + 1 + length l.run_log.merges;
    }

abbrev pub decreases-loop-pair : goal.decreases-loop-pair
decreases-loop-pair g l = (MAX_PARTITIONS - l.at.p) * MAX_PARTITIONS + (MAX_PARTITIONS - l.at.q)
