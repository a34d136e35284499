use Rattle.std.proofs.Common.{arith}
use Rattle.std.proofs.lemmas.Grind.{common_steps}
use Rattle.count_miner.proofs.counting.count_trace.Goals as goal

pub count_types-requires-clause-room : goal.count_types-requires-clause-room
count_types-requires-clause-room c = grind (arith, common_steps)

pub returns : goal.returns
returns c = grind (arith, common_steps)
