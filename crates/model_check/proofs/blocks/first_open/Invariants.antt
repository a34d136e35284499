use Rattle.model_check.specs.Pairs.{IsReached}
use Rattle.model_check.proofs.Opening.{AreKept}
use Rattle.model_check.proofs.blocks.first_open.Given as goal

abbrev pub invariant-loop-i : goal.invariant-loop-i
invariant-loop-i l = record { reached : IsReached l.model l.next l.i; held : AreKept l.model l.i }
