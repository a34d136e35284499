use Rattle.merge_law.proofs.merge_loses.Goals as goal
use Rattle.merge_law.proofs.Loses.{merge_loses}

pub returns : goal.returns
returns c = merge_loses
