use Rattle.std.proofs.Common.{◌∙◌, List, ℕ, [], Err, None, Option, ap, subst, sym}
use Rattle.std.specs.Option.{option_map_or}
use Rattle.outside.specs.Turns.{OpensFirst}
use Rattle.command_line.specs.Task.{Task, task_held, task_of}
use Rattle.synoptic_cli.specs.Causes.{world}
use Rattle.synoptic_cli.specs.Messages.{Tells}
use Rattle.synoptic_cli.specs.Task.{input_names, stages_of}
use Rattle.events_cli.specs.declared.ending.Ending.{Ending}
use Rattle.events_cli.specs.declared.mode.Mode.{Mode}
use Rattle.events_cli.specs.Causes.{HasCause}
use Rattle.events_cli.specs.Messages.{task_message_of}
use Rattle.events_cli.specs.Words.{fitting, given_words, task_for}
use Rattle.events_cli.proofs.Ended.{asked, no-task-cause, no-task-told}
use Rattle.events_cli.proofs.top.run_given.Goals as goal

pub returns-in-Err-clause-cause : goal.returns-in-Err-clause-cause
returns-in-Err-clause-cause g c = λ words of given.
    let same = world (g.I.Inputs.state c.args.inputs.now) (g.P.Patterns.state c.args.patterns.now) (g.O.Sink.state c.args.out.now) in
    subst (λ (ending : Ending). HasCause ending words same same) (sym c.ending_without_task-ending.ensures)
    (no-task-cause c.in-Err.error words same
    (λ is.
    ap (λ (m : Mode). fitting m (task_of (given_words words))) of
    ∙ (ap (λ (ws : List (List ℕ)). fitting c.args.asked.mode (task_of ws)) given ∙ c.in-Err.ensures.usage (ap Err is))))

pub returns-in-Err-clause-told : goal.returns-in-Err-clause-told
returns-in-Err-clause-told g c = λ words of given.
    subst (λ (ending : Ending). Tells (task_message_of (task_for words) ending) (g.E.ErrorStream.heard c.args.err.now) (g.E.ErrorStream.heard c.tell.new.err)) (sym c.ending_without_task-ending.ensures)
    (subst (λ (t : List ℕ). Tells t (g.E.ErrorStream.heard c.args.err.now) (g.E.ErrorStream.heard c.tell.new.err)) (no-task-told c.in-Err.error (task_for words))
    (subst (λ (ending : Ending). Tells (task_message_of None ending) (g.E.ErrorStream.heard c.args.err.now) (g.E.ErrorStream.heard c.tell.new.err)) c.ending_without_task-ending.ensures c.tell.ensures))

pub returns-clause-cause : goal.returns-clause-cause
returns-clause-cause g c = λ words of given. c.answer-ending.ensures.cause words of (ap task_of given ∙ c.in-Ok.ensures.task)

pub returns-clause-memory : goal.returns-clause-memory
returns-clause-memory g c = c.answer-ending.ensures.memory

pub returns-clause-count : goal.returns-clause-count
returns-clause-count g c = c.answer-ending.ensures.count

pub returns-clause-stays : goal.returns-clause-stays
returns-clause-stays g c = c.answer-ending.ensures.stays

pub returns-clause-turn : goal.returns-clause-turn
returns-clause-turn g c =
    subst (λ (asks : Option Task). OpensFirst (option_map_or (λ task. input_names (stages_of task)) asks []) (g.I.Inputs.state c.args.inputs.now) (g.I.Inputs.state c.answer-ending.new.inputs)) (sym c.in-Ok.ensures.task)
    c.answer-ending.ensures.turn

pub returns-clause-told : goal.returns-clause-told
returns-clause-told g c = λ words of given.
    subst (λ (asks : Option Task). Tells (task_message_of asks c.answer-ending.result) (g.E.ErrorStream.heard c.args.err.now) (g.E.ErrorStream.heard c.tell-2.new.err))
    (sym (asked words c.args.asked.mode (task_held c.in-Ok.task) of (ap task_of given ∙ c.in-Ok.ensures.task) c.in-Ok.ensures.fits)) c.tell-2.ensures
