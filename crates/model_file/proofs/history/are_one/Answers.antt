use Rattle.std.proofs.Common.{rules}
use Rattle.model_file.proofs.history.are_one.Goals as goal

pub returns-in-Some-Some : goal.returns-in-Some-Some
returns-in-Some-Some c = search rules
