use Rattle.std.proofs.Common.{arith}
use Rattle.std.proofs.lemmas.Grind.{common_steps}
use Rattle.model_file.proofs.found.read_field.Goals as goal

pub returns-in-Bounded-clause-ok : goal.returns-in-Bounded-clause-ok
returns-in-Bounded-clause-ok c = grind (arith, common_steps)

pub returns-in-Kinds-clause-ok : goal.returns-in-Kinds-clause-ok
returns-in-Kinds-clause-ok c = grind (arith, common_steps)

pub returns-in-Version-clause-ok : goal.returns-in-Version-clause-ok
returns-in-Version-clause-ok c = grind (arith, common_steps)
