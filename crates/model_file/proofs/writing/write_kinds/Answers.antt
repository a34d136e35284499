use Rattle.std.proofs.Common.{rules}
use Rattle.model_file.proofs.writing.write_kinds.Goals as goal

pub returns-in-Four : goal.returns-in-Four
returns-in-Four c = search rules
