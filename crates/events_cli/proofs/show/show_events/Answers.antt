use Rattle.std.proofs.Common.{ℕ, List, ap}
use Rattle.std.specs.Option.{option_map}
use Rattle.line_rules.specs.Views.{rules_in}
use Rattle.log_reader.specs.Inputs.{HasReadCause, inputs_of}
use Rattle.log_reader.specs.Reading.{Form, Setting, setting}
use Rattle.log_reader.specs.Views.{form_view, names_in}
use Rattle.command_line.specs.Task.{task_held}
use Rattle.events.specs.Reading.{ReadsEvents}
use Rattle.synoptic_cli.specs.Halts.{form_with, setting_of}
use Rattle.events_cli.proofs.Shown.{along, events-shown}
use Rattle.events_cli.proofs.show.show_events.Goals as goal

pub returns-in-Ok-events_answer-clause-ok : goal.returns-in-Ok-events_answer-clause-ok
returns-in-Ok-events_answer-clause-ok g c =
    let task = task_held c.args.task.now in
    let old = g.I.Inputs.state c.args.inputs.now in
    let new = g.I.Inputs.state c.read_events.new.inputs in
    let form = form_with (option_map rules_in c.args.rules.now) in
    let is = ap (λ (f : Form). setting f c.args.task.now.ignore c.args.task.now.join) c.form_of-form.ensures in
    events-shown c.args.mode task form old new c.in-Ok.events.traces c.in-Ok.events.located.items c.in-Ok-events_answer.answer c.requires.events
    (along (λ (s : Setting) (names : List (List ℕ)). ReadsEvents s names old new c.in-Ok.events.traces c.in-Ok.events.located.items) (setting (form_view c.form_of-form.result) c.args.task.now.ignore c.args.task.now.join) (setting_of task form)
    (names_in c.args.names.now) (inputs_of task.files) is (ap inputs_of c.requires.names) c.in-Ok.ensures.ok)
    c.in-Ok-events_answer.ensures

pub returns-in-Err-clause-err : goal.returns-in-Err-clause-err
returns-in-Err-clause-err g c =
    let task = task_held c.args.task.now in
    let old = g.I.Inputs.state c.args.inputs.now in
    let new = g.I.Inputs.state c.read_events.new.inputs in
    let form = form_with (option_map rules_in c.args.rules.now) in
    let is = ap (λ (f : Form). setting f c.args.task.now.ignore c.args.task.now.join) c.form_of-form.ensures in
    along (λ (s : Setting) (names : List (List ℕ)). HasReadCause s names old new c.in-Err.error) (setting (form_view c.form_of-form.result) c.args.task.now.ignore c.args.task.now.join) (setting_of task form)
    (names_in c.args.names.now) (inputs_of task.files) is (ap inputs_of c.requires.names) c.in-Err.ensures.err
