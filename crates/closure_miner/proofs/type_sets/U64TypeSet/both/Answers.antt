use Rattle.closure_miner.proofs.Bits.{has-both}
use Rattle.closure_miner.proofs.type_sets.U64TypeSet.both.Goals as goal

pub returns : goal.returns
returns c = has-both c.args.self c.args.other
