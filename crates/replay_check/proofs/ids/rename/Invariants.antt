use Rattle.std.proofs.Common.{map, get_or}
use Rattle.replay_check.proofs.Same.{IsPartly}
use Rattle.replay_check.proofs.ids.rename.Given as goal

abbrev pub invariant-loop-k : goal.invariant-loop-k
invariant-loop-k l = IsPartly l.initial.ids l.ids (map (λ y. get_or l.names y 0) l.initial.ids) l.k
