use Rattle.std.proofs.Common.{arith}
use Rattle.std.proofs.lemmas.Grind.{common_steps}
use Rattle.model_file.proofs.found.read_whole_list.Goals as goal

pub returns-in-Edges-clause-ok : goal.returns-in-Edges-clause-ok
returns-in-Edges-clause-ok c = grind (arith, common_steps)

pub returns-in-Merges-clause-ok : goal.returns-in-Merges-clause-ok
returns-in-Merges-clause-ok c = grind (arith, common_steps)

pub returns-in-Partitions-clause-ok : goal.returns-in-Partitions-clause-ok
returns-in-Partitions-clause-ok c = grind (arith, common_steps)
