use Rattle.std.proofs.Common.{◌≡◌, ℕ, ◌+◌, ◌<◌, ◌≤◌, cond, get_or}
use Rattle.std.proofs.Math.Dec.{ltb}
use Rattle.count_miner.proofs.gaps.add_sooner.Given as goal

abbrev pub invariant-loop-i : goal.invariant-loop-i
invariant-loop-i l = record {
  before : (k : ℕ) → k < l.i → get_or l.row k 0 ≡ get_or l.initial.row k 0 + cond (ltb l.limit (get_or l.next k 0)) 1 0;
  after : (k : ℕ) → l.i ≤ k → get_or l.row k 0 ≡ get_or l.initial.row k 0;
}
