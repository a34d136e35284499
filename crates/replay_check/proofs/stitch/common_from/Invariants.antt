use Rattle.std.proofs.Common.{◌≡◌, ◌+◌, ◌≤◌, drop, length}
use Rattle.replay_check.specs.Laid.{common_in_trace}
use Rattle.replay_check.proofs.stitch.common_from.Given as goal

abbrev pub invariant-loop-k : goal.invariant-loop-k
invariant-loop-k l =
    record {
      inside : l.from + l.k ≤ length l.ids;
      common : common_in_trace l.path (drop l.from l.ids) ≡ l.k + common_in_trace (drop l.k l.path) (drop (l.from + l.k) l.ids);
    }
