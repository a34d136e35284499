use Rattle.std.proofs.Common.{arith}
use Rattle.closure_miner.proofs.Bits.{has-two}
use Rattle.closure_miner.proofs.type_sets.WideTypeSet.first.Goals as goal

pub returns : goal.returns
returns c = has-two c.args.types c.first-2.result (omega arith) c.first-2.ensures
