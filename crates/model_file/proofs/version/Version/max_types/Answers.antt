use Rattle.std.proofs.Common.{rules}
use Rattle.model_file.proofs.version.Version.max_types.Goals as goal

pub returns-in-One : goal.returns-in-One
returns-in-One c = search rules
