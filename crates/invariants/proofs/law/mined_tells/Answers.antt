use Rattle.invariants.proofs.Members.{mined_tells}
use Rattle.invariants.proofs.law.mined_tells.Goals as goal

pub returns : goal.returns
returns c = mined_tells
