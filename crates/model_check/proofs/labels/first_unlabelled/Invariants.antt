use Rattle.models.specs.Models.{IsLabelled}
use Rattle.model_check.proofs.Failing.{HoldBelow}
use Rattle.model_check.proofs.labels.first_unlabelled.Given as goal

abbrev pub invariant-loop-i : goal.invariant-loop-i
invariant-loop-i l = HoldBelow (IsLabelled l.model) l.model.invariants l.i
