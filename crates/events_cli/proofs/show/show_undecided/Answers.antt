use Rattle.std.proofs.Common.{◌∙◌, ℕ, Bool, List, ap, ap₂, sym}
use Rattle.std.specs.Option.{option_map}
use Rattle.std.specs.Prelude.{true}
use Rattle.line_rules.specs.Views.{rules_in}
use Rattle.log_reader.specs.Inputs.{HasReadCause, inputs_of}
use Rattle.log_reader.specs.Reading.{Form, Setting, setting}
use Rattle.log_reader.specs.Views.{form_view, names_in}
use Rattle.command_line.specs.Task.{task_held}
use Rattle.events.specs.Reading.{ReadsUndecided}
use Rattle.events.specs.Undecided.{shown_lines}
use Rattle.synoptic_cli.specs.Halts.{form_with, setting_of}
use Rattle.events_cli.specs.Answers.{undecided_answer}
use Rattle.events_cli.proofs.Shown.{along, undecided-shown}
use Rattle.events_cli.proofs.show.show_undecided.Goals as goal

pub returns-in-Ok-undecided_answer-clause-ok : goal.returns-in-Ok-undecided_answer-clause-ok
returns-in-Ok-undecided_answer-clause-ok g c =
    let task = task_held c.args.task.now in
    let old = g.I.Inputs.state c.args.inputs.now in
    let new = g.I.Inputs.state c.read_undecided.new.inputs in
    let form = form_with (option_map rules_in c.args.rules.now) in
    let is = ap₂ (λ (f : Form) (ignore : Bool). setting f ignore c.args.task.now.join) c.form_of-form.ensures (sym c.requires.skips) in
    undecided-shown c.args.mode task form old new (shown_lines c.in-Ok.lines.items) c.in-Ok-undecided_answer.answer c.requires.lists
    (along (λ (s : Setting) (names : List (List ℕ)). ReadsUndecided s names old new (shown_lines c.in-Ok.lines.items)) (setting (form_view c.form_of-form.result) true c.args.task.now.join) (setting_of task form)
    (names_in c.args.names.now) (inputs_of task.files) is (ap inputs_of c.requires.names) c.in-Ok.ensures.ok)
    (c.in-Ok-undecided_answer.ensures ∙ ap (λ lines. undecided_answer task (shown_lines lines)) c.deref.ensures.value)

pub returns-in-Err-clause-err : goal.returns-in-Err-clause-err
returns-in-Err-clause-err g c =
    let task = task_held c.args.task.now in
    let old = g.I.Inputs.state c.args.inputs.now in
    let new = g.I.Inputs.state c.read_undecided.new.inputs in
    let form = form_with (option_map rules_in c.args.rules.now) in
    let is = ap₂ (λ (f : Form) (ignore : Bool). setting f ignore c.args.task.now.join) c.form_of-form.ensures (sym c.requires.skips) in
    along (λ (s : Setting) (names : List (List ℕ)). HasReadCause s names old new c.in-Err.error) (setting (form_view c.form_of-form.result) true c.args.task.now.join) (setting_of task form)
    (names_in c.args.names.now) (inputs_of task.files) is (ap inputs_of c.requires.names) c.in-Err.ensures.err
