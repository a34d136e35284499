use Rattle.std.proofs.Common.{◌≡◌, ℕ, ◌+◌, ◌<◌, ◌≤◌, get_or}
use Rattle.count_miner.proofs.counting.add_counts.Given as goal

abbrev pub invariant-loop-i : goal.invariant-loop-i
invariant-loop-i l = record {
  before : (k : ℕ) → k < l.i → get_or l.counts k 0 ≡ get_or l.initial.counts k 0 + get_or l.more k 0;
  after : (k : ℕ) → l.i ≤ k → get_or l.counts k 0 ≡ get_or l.initial.counts k 0;
}
