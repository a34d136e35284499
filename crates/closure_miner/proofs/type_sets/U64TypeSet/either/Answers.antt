use Rattle.closure_miner.proofs.Bits.{has-either}
use Rattle.closure_miner.proofs.type_sets.U64TypeSet.either.Goals as goal

pub returns : goal.returns
returns c = has-either c.args.self c.args.other
