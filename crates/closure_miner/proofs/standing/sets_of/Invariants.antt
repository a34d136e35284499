use Rattle.std.proofs.Common.{◌≡◌, replicate}
use Rattle.closure_miner.proofs.standing.sets_of.Given as goal

abbrev pub invariant-loop-i : goal.invariant-loop-i
invariant-loop-i g l = l.sets.items ≡ replicate l._i l.set
