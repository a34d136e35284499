use Rattle.std.proofs.Common.{◌∙◌, ap, sym}
use Rattle.std.specs.Option.{option_map}
use Rattle.command_line.specs.Task.{task_held}
use Rattle.events_cli.proofs.Answered.{plain-form, rules-form}
use Rattle.events_cli.proofs.rules.read_form.Goals as goal

pub returns-in_default-clause-ok : goal.returns-in_default-clause-ok
returns-in_default-clause-ok g c =
    plain-form (task_held c.args.task.now) (g.I.Inputs.state c.args.inputs.now) (sym c.rules_name.ensures ∙ ap (option_map (λ s. s.now)) c.in_default.is)

pub returns-in-Ok-clause-ok : goal.returns-in-Ok-clause-ok
returns-in-Ok-clause-ok g c =
    rules-form (task_held c.args.task.now) (g.I.Inputs.state c.args.inputs.now) (g.I.Inputs.state c.read_rules.new.inputs) c.in-Some.name.now c.in-Ok.rules
    (sym c.rules_name.ensures ∙ ap (option_map (λ s. s.now)) c.in-Some.is) c.in-Ok.ensures.ok

pub returns-in-Err-clause-err : goal.returns-in-Err-clause-err
returns-in-Err-clause-err g c = c.in-Err.ensures.err (task_held c.args.task.now) (sym c.rules_name.ensures ∙ ap (option_map (λ s. s.now)) c.in-Some.is)
