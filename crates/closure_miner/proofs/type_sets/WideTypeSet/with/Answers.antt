use Rattle.std.proofs.Common.{rules}
use Rattle.closure_miner.proofs.type_sets.WideTypeSet.with.Goals as goal

pub returns : goal.returns
returns c = search rules
