use Rattle.std.proofs.Common.{rules}
use Rattle.model_check.proofs.steps.step.Goals as goal

pub returns-then-next-ne0-clause-set : goal.returns-then-next-ne0-clause-set
returns-then-next-ne0-clause-set c = search rules
