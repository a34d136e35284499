use Rattle.merge_law.proofs.pair_keeps.Goals as goal
use Rattle.merge_law.proofs.Rules.{pair_keeps}

pub returns : goal.returns
returns c = pair_keeps
