use Rattle.distinct_law.proofs.counts_are_weighted.Goals as goal
use Rattle.distinct_law.proofs.Models.{counts_are_weighted}

pub returns : goal.returns
returns c = counts_are_weighted
