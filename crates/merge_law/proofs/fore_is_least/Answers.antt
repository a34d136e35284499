use Rattle.merge_law.proofs.fore_is_least.Goals as goal
use Rattle.merge_law.proofs.Rules.{fore_is_least}

pub returns : goal.returns
returns c = fore_is_least
