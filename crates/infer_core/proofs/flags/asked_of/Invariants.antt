use Rattle.std.proofs.Common.{◌≡◌, filter, take}
use Rattle.infer_core.specs.Vacuous.{is_asked}
use Rattle.infer_core.proofs.flags.asked_of.Given as goal

abbrev pub invariant-loop-k : goal.invariant-loop-k
invariant-loop-k l = l.asked.items ≡ filter (is_asked l.once) (take l.k l.invs)
