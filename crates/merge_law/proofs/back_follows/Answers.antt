use Rattle.merge_law.proofs.back_follows.Goals as goal
use Rattle.merge_law.proofs.Rules.{back_follows}

pub returns : goal.returns
returns c = back_follows
