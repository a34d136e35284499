use Rattle.infer_core.specs.Vacuous.{AreOfEachType}
use Rattle.infer_core.proofs.flags.never_again.Given as goal

abbrev pub invariant-loop-a : goal.invariant-loop-a
invariant-loop-a l = AreOfEachType l.a l.invs.items
