use Rattle.std.proofs.Common.{◌+◌, ◌≤◌, take}
use Rattle.limits.specs.declared.TheConstants.{LAST_TYPE}
use Rattle.clashes.specs.Rules.{AreNamedBelow}
use Rattle.clashes.proofs.masks.first_unnamed.Given as goal

abbrev pub invariant-loop-inv : goal.invariant-loop-inv
invariant-loop-inv l = (l.unnamed ≤ LAST_TYPE + 1) × AreNamedBelow l.unnamed (take l.inv-index l.invs)
