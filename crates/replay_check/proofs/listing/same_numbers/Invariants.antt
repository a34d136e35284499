use Rattle.replay_check.proofs.Same.{AgreeBelow}
use Rattle.replay_check.proofs.listing.same_numbers.Given as goal

abbrev pub invariant-loop-i : goal.invariant-loop-i
invariant-loop-i l = AgreeBelow l.these l.those l.i
