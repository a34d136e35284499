use Rattle.merge_law.proofs.fore_follows.Goals as goal
use Rattle.merge_law.proofs.Rules.{fore_follows}

pub returns : goal.returns
returns c = fore_follows
