use Rattle.std.proofs.Common.{◌≡◌, ℕ, ◌+◌, ◌&&◌, take}
use Rattle.invariants.specs.Holds.{occurs, always_preceded}
use Rattle.closure_miner.specs.Sets.{has_at}
use Rattle.closure_miner.proofs.striking.read_from_start.Given as goal

abbrev pub invariant-loop-i : goal.invariant-loop-i
invariant-loop-i g l = record {
  seen : (a : ℕ) → g.S.TypeSet.has l.earlier a ≡ occurs (a + 2) (take l.i l.events);
  preceded : (a b : ℕ) → has_at g.S.TypeSet.has l.preceded b a ≡ (has_at g.S.TypeSet.has l.fn.preceded b a && always_preceded (a + 2) (b + 2) (take l.i l.events));
}
