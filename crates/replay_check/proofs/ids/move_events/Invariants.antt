use Rattle.std.proofs.Common.{◌-◌}
use Rattle.replay_check.specs.Laid.{moved}
use Rattle.replay_check.proofs.Same.{IsPartly}
use Rattle.replay_check.proofs.ids.move_events.Given as goal

abbrev pub invariant-loop-k : goal.invariant-loop-k
invariant-loop-k l = IsPartly l.initial.ids l.ids (moved l.p l.q l.n l.initial.ids) (l.k - 1)
