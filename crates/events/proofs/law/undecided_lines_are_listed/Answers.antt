use Rattle.events.proofs.Lines.{others-are-not-listed, undecided-are-listed}
use Rattle.events.proofs.law.undecided_lines_are_listed.Goals as goal

pub returns-clause-listed : goal.returns-clause-listed
returns-clause-listed c = undecided-are-listed

pub returns-clause-others : goal.returns-clause-others
returns-clause-others c = others-are-not-listed
