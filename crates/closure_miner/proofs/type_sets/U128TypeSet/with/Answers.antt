use Rattle.std.specs.Int.{w128}
use Rattle.closure_miner.proofs.Bits.{has-with}
use Rattle.closure_miner.proofs.type_sets.U128TypeSet.with.Goals as goal

pub returns : goal.returns
returns c = λ p. has-with w128 c.args.self c.args.place p c.requires
