use Rattle.log_reader.proofs.LineByLine.{tells-line, tells-none, tells-refusal}
use Rattle.log_reader.proofs.law.lines_come_in_order.Goals as goal

pub returns-clause-line : goal.returns-clause-line
returns-clause-line c = tells-line

pub returns-clause-none : goal.returns-clause-none
returns-clause-none c = tells-none

pub returns-clause-refusal : goal.returns-clause-refusal
returns-clause-refusal c = tells-refusal
