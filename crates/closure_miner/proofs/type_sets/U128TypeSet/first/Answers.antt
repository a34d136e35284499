use Rattle.closure_miner.proofs.Bits.{has-lowest}
use Rattle.closure_miner.proofs.type_sets.U128TypeSet.first.Goals as goal

pub returns : goal.returns
returns c = has-lowest 128 c.args.types c.requires
