use Rattle.model_check.proofs.Opening.{IsScanned}
use Rattle.model_check.proofs.blocks.first_open_with.Given as goal

abbrev pub invariant-loop-j : goal.invariant-loop-j
invariant-loop-j l = IsScanned l.model l.i l.j l.next l.x
