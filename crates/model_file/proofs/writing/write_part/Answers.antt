use Rattle.std.proofs.Common.{arith}
use Rattle.std.proofs.lemmas.Grind.{common_steps}
use Rattle.model_file.proofs.writing.write_part.Goals as goal

pub returns : goal.returns
returns g c = grind (arith, common_steps)
