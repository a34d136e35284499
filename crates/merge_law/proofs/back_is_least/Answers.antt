use Rattle.merge_law.proofs.back_is_least.Goals as goal
use Rattle.merge_law.proofs.Rules.{back_is_least}

pub returns : goal.returns
returns c = back_is_least
