use Rattle.std.proofs.Common.{arith}
use Rattle.std.proofs.lemmas.Grind.{common_steps}
use Rattle.model_file.proofs.found.read_bounded.Goals as goal

pub returns-in-Blocks-clause-ok : goal.returns-in-Blocks-clause-ok
returns-in-Blocks-clause-ok c = grind (arith, common_steps)

pub returns-in-Invariants-clause-ok : goal.returns-in-Invariants-clause-ok
returns-in-Invariants-clause-ok c = grind (arith, common_steps)

pub returns-in-Splits-clause-ok : goal.returns-in-Splits-clause-ok
returns-in-Splits-clause-ok c = grind (arith, common_steps)

pub returns-in-Types-clause-ok : goal.returns-in-Types-clause-ok
returns-in-Types-clause-ok c = grind (arith, common_steps)
