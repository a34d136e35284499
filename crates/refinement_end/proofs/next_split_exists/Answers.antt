use Rattle.refinement_end.proofs.next_split_exists.Goals as goal
use Rattle.refinement_end.proofs.NextSplits.{next_split_exists}

pub returns : goal.returns
returns c = next_split_exists
