use Rattle.lines.proofs.Joins.{pieces-unique}
use Rattle.lines.proofs.law.pieces_are_unique.Goals as goal

pub returns : goal.returns
returns c = pieces-unique
