use Rattle.merge_law.proofs.merge_keeps.Goals as goal
use Rattle.merge_law.proofs.Loses.{merge_keeps}

pub returns : goal.returns
returns c = merge_keeps
