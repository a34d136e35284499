use Rattle.log_reader.proofs.LinesOfLog.{events-own}
use Rattle.log_reader.proofs.law.events_are_those_of_lines.Goals as goal

pub returns : goal.returns
returns c = events-own
