use Rattle.std.specs.Int.{w64}
use Rattle.closure_miner.proofs.Bits.{has-with}
use Rattle.closure_miner.proofs.type_sets.U64TypeSet.with.Goals as goal

pub returns : goal.returns
returns c = λ p. has-with w64 c.args.self c.args.place p c.requires
