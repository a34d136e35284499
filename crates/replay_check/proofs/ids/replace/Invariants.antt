use Rattle.std.proofs.Common.{map}
use Rattle.partition_model.specs.Coarsening.{onto}
use Rattle.replay_check.proofs.Same.{IsPartly}
use Rattle.replay_check.proofs.ids.replace.Given as goal

abbrev pub invariant-loop-k : goal.invariant-loop-k
invariant-loop-k l = IsPartly l.initial.numbers l.numbers (map (λ y. onto l.p l.q y) l.initial.numbers) l.k
