use Rattle.merge_law.proofs.all_on_paths.Goals as goal
use Rattle.merge_law.proofs.Walks.{all_on_paths}

pub returns : goal.returns
returns c = all_on_paths
