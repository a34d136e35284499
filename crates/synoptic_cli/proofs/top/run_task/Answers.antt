use Rattle.std.proofs.Common.{Option, subst, sym}
use Rattle.command_line.specs.Task.{Task}
use Rattle.synoptic_cli.specs.Messages.{Tells, task_message}
use Rattle.synoptic_cli.proofs.Expected.{cause-expected}
use Rattle.synoptic_cli.proofs.top.run_task.Goals as goal

pub returns-clause-cause : goal.returns-clause-cause
returns-clause-cause g c = c.answer-status.ensures.cause

pub returns-clause-expected : goal.returns-clause-expected
returns-clause-expected g c = λ words asks. cause-expected c.answer-status.result words _ _ (c.answer-status.ensures.cause words asks)

pub returns-clause-memory : goal.returns-clause-memory
returns-clause-memory g c = c.answer-status.ensures.memory

pub returns-clause-count : goal.returns-clause-count
returns-clause-count g c = c.answer-status.ensures.count

pub returns-clause-stays : goal.returns-clause-stays
returns-clause-stays g c = c.answer-status.ensures.stays

pub returns-clause-turn : goal.returns-clause-turn
returns-clause-turn g c = c.answer-status.ensures.turn

pub returns-clause-told : goal.returns-clause-told
returns-clause-told g c = λ words asks.
    subst (λ (asked : Option Task). Tells (task_message asked c.answer-status.result) (g.E.ErrorStream.heard c.args.err.now) (g.E.ErrorStream.heard c.tell.new.err)) (sym asks) c.tell.ensures
