use Rattle.std.proofs.Common.{rules}
use Rattle.model_file.proofs.entries.kinds_from.Goals as goal

pub returns-in-AF : goal.returns-in-AF
returns-in-AF c = search rules
