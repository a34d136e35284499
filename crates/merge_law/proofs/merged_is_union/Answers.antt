use Rattle.merge_law.proofs.merged_is_union.Goals as goal
use Rattle.merge_law.proofs.Union.{merged_is_union}

pub returns : goal.returns
returns c = merged_is_union
