use Rattle.clashes.proofs.law.clashes_tell.Goals as goal
use Rattle.clashes.proofs.Telling.{clashes_tell}

pub returns : goal.returns
returns c = clashes_tell
