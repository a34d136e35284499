use Rattle.distinct_law.proofs.words_take_paths.Goals as goal
use Rattle.distinct_law.proofs.Models.{words_take_paths}

pub returns : goal.returns
returns c = words_take_paths
