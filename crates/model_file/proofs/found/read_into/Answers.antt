use Rattle.std.proofs.Common.{rules}
use Rattle.model_file.proofs.found.read_into.Goals as goal

pub returns-in-Ok-clause-ok : goal.returns-in-Ok-clause-ok
returns-in-Ok-clause-ok g c = search rules
