use Rattle.std.proofs.Common.{◌≡◌, ℕ, ◌+◌, ◌≤◌, ◌&&◌, not, drop, length}
use Rattle.invariants.specs.Holds.{occurs, always_followed, never_followed}
use Rattle.closure_miner.specs.Sets.{has_at}
use Rattle.closure_miner.proofs.striking.read_from_end.Given as goal

abbrev pub invariant-loop-left : goal.invariant-loop-left
invariant-loop-left g l = record {
  within : l.left ≤ length l.events;
  seen : (b : ℕ) → g.S.TypeSet.has l.later b ≡ occurs (b + 2) (drop l.left l.events);
  followed : (a b : ℕ) → has_at g.S.TypeSet.has l.followed a b ≡ (has_at g.S.TypeSet.has l.fn.followed a b && always_followed (a + 2) (b + 2) (drop l.left l.events));
  never : (a b : ℕ) → not (has_at g.S.TypeSet.has l.met a b) ≡ (not (has_at g.S.TypeSet.has l.fn.met a b) && never_followed (a + 2) (b + 2) (drop l.left l.events));
}

abbrev pub decreases-loop-left : goal.decreases-loop-left
decreases-loop-left g l = l.left
