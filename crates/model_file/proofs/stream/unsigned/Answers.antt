use Rattle.std.proofs.Common.{rules}
use Rattle.model_file.proofs.stream.unsigned.Goals as goal

pub returns-in-Some : goal.returns-in-Some
returns-in-Some c = search rules
