use Rattle.std.proofs.Common.{◌∙◌, Err, ap, subst, sym}
use Rattle.std.specs.Option.{option_map}
use Rattle.line_rules.specs.Views.{rules_in}
use Rattle.command_line.specs.Task.{task_held}
use Rattle.synoptic_cli.specs.Halts.{Ends, form_with}
use Rattle.synoptic_cli.specs.declared.status.Status.{Status}
use Rattle.synoptic_cli.proofs.LogStage.{ReadAlike}
use Rattle.synoptic_cli.proofs.Ends.{rules-turn}
use Rattle.events_cli.specs.Steps.{IsOfReading}
use Rattle.events_cli.proofs.Answered.{answered, first-read, fits-is}
use Rattle.events_cli.proofs.Ended.{given-read, halt-ends, halt-reading, log-turned, read-calm, rules-reading}
use Rattle.events_cli.proofs.top.read_answer.Goals as goal

pub returns-in-Err-clause-refused : goal.returns-in-Err-clause-refused
returns-in-Err-clause-refused g c = rules-reading c.in-Err.status c.in-Err.ensures.refused

pub returns-in-Err-clause-turn : goal.returns-in-Err-clause-turn
returns-in-Err-clause-turn g c = rules-turn (task_held c.args.task.now) (g.I.Inputs.state c.args.inputs.now) (g.I.Inputs.state c.read_form.new.inputs) c.read_form.ensures.turn

pub returns-in-Ok-show-clause-ok : goal.returns-in-Ok-show-clause-ok
returns-in-Ok-show-clause-ok g c =
    let law : ReadAlike = λ rs ss ignore join files alike. (c.alike_rules_read_alike.ensures.refusal rs ss ignore join files alike, c.alike_rules_read_alike.ensures.events rs ss ignore join files alike) in
    let task = task_held c.args.task.now in
    let old = g.I.Inputs.state c.args.inputs.now in
    let mid = g.I.Inputs.state c.read_form.new.inputs in
    let form = form_with (option_map rules_in c.in-Ok.rules) in
    let is = fits-is c.args.mode task c.requires.fits in
    answered law c.args.mode task form c.in-Ok-show.answer old mid (g.I.Inputs.state c.show.new.inputs) is (first-read c.args.mode task form old mid is c.read_form.ensures.stays c.in-Ok.ensures.ok) c.in-Ok-show.ensures.ok

pub returns-in-Ok-show-clause-given : goal.returns-in-Ok-show-clause-given
returns-in-Ok-show-clause-given g c =
    given-read c.args.mode (task_held c.args.task.now) (form_with (option_map rules_in c.in-Ok.rules)) (g.I.Inputs.state c.read_form.new.inputs) (g.I.Inputs.state c.show.new.inputs) c.in-Ok-show.answer c.in-Ok-show.ensures.ok

pub returns-in-Ok-show-clause-turn : goal.returns-in-Ok-show-clause-turn
returns-in-Ok-show-clause-turn g c =
    let task = task_held c.args.task.now in
    let old = g.I.Inputs.state c.args.inputs.now in
    let mid = g.I.Inputs.state c.read_form.new.inputs in
    let form = form_with (option_map rules_in c.in-Ok.rules) in
    let is = fits-is c.args.mode task c.requires.fits in
    log-turned c.args.mode task form old mid (g.I.Inputs.state c.show.new.inputs) is (first-read c.args.mode task form old mid is c.read_form.ensures.stays c.in-Ok.ensures.ok) c.show.ensures.turn

pub returns-clause-err : goal.returns-clause-err
returns-clause-err g c =
    let law : ReadAlike = λ rs ss ignore join files alike. (c.alike_rules_read_alike.ensures.refusal rs ss ignore join files alike, c.alike_rules_read_alike.ensures.events rs ss ignore join files alike) in
    let task = task_held c.args.task.now in
    let old = g.I.Inputs.state c.args.inputs.now in
    let mid = g.I.Inputs.state c.read_form.new.inputs in
    let new = g.I.Inputs.state c.show.new.inputs in
    let before = g.P.Patterns.state c.args.patterns.now in
    let after = g.P.Patterns.state c.read_form.new.patterns in
    let form = form_with (option_map rules_in c.in-Ok.rules) in
    let is = fits-is c.args.mode task c.requires.fits in
    subst (λ (status : Status). Ends status task old new before after) (sym c.halt_status.ensures)
    (halt-ends law c.args.mode task form old mid new before after c.in-Err-show.halt is (first-read c.args.mode task form old mid is c.read_form.ensures.stays c.in-Ok.ensures.ok) c.show.ensures.opens c.in-Err-show.ensures.err)

pub returns-clause-refused : goal.returns-clause-refused
returns-clause-refused g c = subst IsOfReading (sym c.halt_status.ensures) (halt-reading c.in-Err-show.halt)

pub returns-clause-memory : goal.returns-clause-memory
returns-clause-memory g c = λ is.
    let task = task_held c.args.task.now in
    let old = g.I.Inputs.state c.args.inputs.now in
    let mid = g.I.Inputs.state c.read_form.new.inputs in
    let form = form_with (option_map rules_in c.in-Ok.rules) in
    let fit = fits-is c.args.mode task c.requires.fits in
    read-calm c.args.mode task form old mid (g.I.Inputs.state c.show.new.inputs) c.in-Err-show.halt fit (first-read c.args.mode task form old mid fit c.read_form.ensures.stays c.in-Ok.ensures.ok) (sym c.halt_status.ensures ∙ cc is)
    (λ wanted. c.in-Err-show.ensures.memory (ap Err wanted)) c.in-Err-show.ensures.err

pub returns-clause-turn : goal.returns-clause-turn
returns-clause-turn g c =
    let task = task_held c.args.task.now in
    let old = g.I.Inputs.state c.args.inputs.now in
    let mid = g.I.Inputs.state c.read_form.new.inputs in
    let form = form_with (option_map rules_in c.in-Ok.rules) in
    let is = fits-is c.args.mode task c.requires.fits in
    log-turned c.args.mode task form old mid (g.I.Inputs.state c.show.new.inputs) is (first-read c.args.mode task form old mid is c.read_form.ensures.stays c.in-Ok.ensures.ok) c.show.ensures.turn
