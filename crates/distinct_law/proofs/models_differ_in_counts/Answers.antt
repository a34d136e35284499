use Rattle.distinct_law.proofs.models_differ_in_counts.Goals as goal
use Rattle.distinct_law.proofs.Models.{models_differ_in_counts}

pub returns : goal.returns
returns c = models_differ_in_counts
