use Rattle.std.proofs.Common.{sym, rules}
use Rattle.command_line.specs.Given.{given_held}
use Rattle.command_line.specs.Task.{task_held}
use Rattle.command_line.proofs.Numbered.{has-few, has-sessions}
use Rattle.command_line.proofs.task.parse.Goals as goal

pub returns-in-Some-clause-sessions : goal.returns-in-Some-clause-sessions
returns-in-Some-clause-sessions c = has-sessions (given_held c.in_ok-read.field-0) (task_held c.in-Some.task) (sym c.in-Some.ensures)

pub returns-in-Some-clause-few : goal.returns-in-Some-clause-few
returns-in-Some-clause-few c = has-few (given_held c.in_ok-read.field-0) (task_held c.in-Some.task) (sym c.in-Some.ensures)

pub returns-in-Some-clause-usage : goal.returns-in-Some-clause-usage
returns-in-Some-clause-usage c = search rules
