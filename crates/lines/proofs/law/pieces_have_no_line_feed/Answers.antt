use Rattle.lines.proofs.Joins.{pieces-no-feed}
use Rattle.lines.proofs.law.pieces_have_no_line_feed.Goals as goal

pub returns : goal.returns
returns c = pieces-no-feed
