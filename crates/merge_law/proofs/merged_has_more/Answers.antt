use Rattle.merge_law.proofs.merged_has_more.Goals as goal
use Rattle.merge_law.proofs.Walks.{merged_has_more}

pub returns : goal.returns
returns c = merged_has_more
