use Rattle.std.proofs.Common.{[], Err, Option, ap, map, subst, sym}
use Rattle.std.specs.Option.{option_map_or}
use Rattle.std.specs.String.{string_bytes}
use Rattle.outside.specs.Turns.{OpensFirst}
use Rattle.command_line.specs.Task.{Task}
use Rattle.synoptic_cli.specs.declared.status.Status.{Status}
use Rattle.synoptic_cli.specs.Causes.{HasCause, world}
use Rattle.synoptic_cli.specs.Task.{input_names, stages_of}
use Rattle.synoptic_cli.proofs.Expected.{cause-expected, no-task-ends}
use Rattle.synoptic_cli.proofs.top.run.Goals as goal

pub returns-in-Err-clause-cause : goal.returns-in-Err-clause-cause
returns-in-Err-clause-cause g c =
    let words = map string_bytes c.args.words.now in
    let same = world (g.I.Inputs.state c.args.inputs.now) (g.P.Patterns.state c.args.patterns.now) (g.O.Sink.state c.args.out.now) in
    subst (λ (status : Status). HasCause status words same same) (sym c.status_without_task-status.ensures) (no-task-ends c.in-Err.error words same (λ is. c.in-Err.ensures.usage (ap Err is)))

pub returns-in-Err-clause-expected : goal.returns-in-Err-clause-expected
returns-in-Err-clause-expected g c =
    let words = map string_bytes c.args.words.now in
    let same = world (g.I.Inputs.state c.args.inputs.now) (g.P.Patterns.state c.args.patterns.now) (g.O.Sink.state c.args.out.now) in
    cause-expected c.status_without_task-status.result words same same
    (subst (λ (status : Status). HasCause status words same same) (sym c.status_without_task-status.ensures) (no-task-ends c.in-Err.error words same (λ is. c.in-Err.ensures.usage (ap Err is))))

pub returns-clause-cause : goal.returns-clause-cause
returns-clause-cause g c = c.run_task.ensures.cause (map string_bytes c.args.words.now) c.in-Ok.ensures.ok

pub returns-clause-expected : goal.returns-clause-expected
returns-clause-expected g c = c.run_task.ensures.expected (map string_bytes c.args.words.now) c.in-Ok.ensures.ok

pub returns-clause-memory : goal.returns-clause-memory
returns-clause-memory g c = c.run_task.ensures.memory

pub returns-clause-count : goal.returns-clause-count
returns-clause-count g c = c.run_task.ensures.count

pub returns-clause-stays : goal.returns-clause-stays
returns-clause-stays g c = c.run_task.ensures.stays

pub returns-clause-turn : goal.returns-clause-turn
returns-clause-turn g c =
    subst (λ (asked : Option Task). OpensFirst (option_map_or (λ task. input_names (stages_of task)) asked []) (g.I.Inputs.state c.args.inputs.now) (g.I.Inputs.state c.run_task.new.inputs)) (sym c.in-Ok.ensures.ok)
    c.run_task.ensures.turn

pub returns-clause-told : goal.returns-clause-told
returns-clause-told g c = c.run_task.ensures.told (map string_bytes c.args.words.now) c.in-Ok.ensures.ok
