use Rattle.refinement_end.proofs.satisfied_or_split.Goals as goal
use Rattle.refinement_end.proofs.NextSplits.{satisfied_or_split}

pub returns : goal.returns
returns c = satisfied_or_split
