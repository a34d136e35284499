use Rattle.invariants.proofs.Members.{candidates_tell}
use Rattle.invariants.proofs.law.candidates_tell.Goals as goal

pub returns : goal.returns
returns c = candidates_tell
