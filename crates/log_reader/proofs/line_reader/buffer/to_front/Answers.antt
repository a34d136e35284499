use Rattle.std.proofs.Common.{arith}
use Rattle.std.proofs.lemmas.Grind.{common_steps}
use Rattle.log_reader.proofs.line_reader.buffer.to_front.Goals as goal

pub returns-then-from-gt0-clause-front : goal.returns-then-from-gt0-clause-front
returns-then-from-gt0-clause-front c = grind (arith, common_steps)
