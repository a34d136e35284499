use Rattle.std.proofs.Common.{rules}
use Rattle.model_check.proofs.labels.keep_along.Goals as goal

pub returns : goal.returns
returns c = search rules
