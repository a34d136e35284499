use Rattle.shard_law.proofs.shown_is_there.Goals as goal
use Rattle.shard_law.proofs.Showing.{shown_is_there}

pub returns : goal.returns
returns c = shown_is_there
