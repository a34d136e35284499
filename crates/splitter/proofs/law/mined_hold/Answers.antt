use Rattle.splitter.proofs.Mining.{mined-hold}
use Rattle.splitter.proofs.law.mined_hold.Goals as goal

pub returns : goal.returns
returns c = mined-hold
