use Rattle.lines.proofs.Joins.{pieces-back}
use Rattle.lines.proofs.law.pieces_give_the_bytes_back.Goals as goal

pub returns : goal.returns
returns c = pieces-back
