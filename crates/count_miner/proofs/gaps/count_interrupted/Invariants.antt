use Rattle.std.proofs.Common.{◌≡◌, ℕ, ◌+◌, ◌<◌, ◌≤◌, drop, get_or, length}
use Rattle.count_miner.specs.Counts.{cell, interrupted_count}
use Rattle.count_miner.proofs.Between.{rest_from}
use Rattle.count_miner.proofs.gaps.count_interrupted.Given as goal

abbrev pub invariant-loop-others : goal.invariant-loop-others
invariant-loop-others l = record {
  within : l.others ≤ length l.events;
  next : (t : ℕ) → t < length l.fn.next → get_or l.next t 0 ≡ rest_from (t + 2) (drop l.others l.events);
  counted : (a b : ℕ) → a < length l.fn.next → b < length l.fn.next → cell l.table (length l.fn.next) a b
      ≡ cell l.fn.table (length l.fn.next) a b + interrupted_count (a + 2) (b + 2) (drop l.others l.events);
}

abbrev pub decreases-loop-others : goal.decreases-loop-others
decreases-loop-others l = l.others
