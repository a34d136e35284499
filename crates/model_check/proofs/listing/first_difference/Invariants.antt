use Rattle.model_check.proofs.Failing.{AgreeUpTo}
use Rattle.model_check.proofs.listing.first_difference.Given as goal

abbrev pub invariant-loop-i : goal.invariant-loop-i
invariant-loop-i l = AgreeUpTo l.i l.listed l.mined
