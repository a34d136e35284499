use Rattle.std.proofs.Common.{rules}
use Rattle.model_file.proofs.shape.is_less.Goals as goal

pub returns-then-x-y-2 : goal.returns-then-x-y-2
returns-then-x-y-2 c = search rules
