use Rattle.events.proofs.Lines.{events-stand}
use Rattle.events.proofs.law.events_stand_on_their_lines.Goals as goal

pub returns : goal.returns
returns c = events-stand
