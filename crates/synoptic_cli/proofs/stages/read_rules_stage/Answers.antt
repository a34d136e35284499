use Rattle.std.proofs.Common.{◌∙◌, ℕ, List, Option, Some, ap, subst, sym}
use Rattle.std.specs.Option.{option_map}
use Rattle.command_line.specs.Task.{task_held}
use Rattle.outside.specs.Turns.{OpensFirst}
use Rattle.synoptic_cli.specs.Task.{file_stage, input_names, RulesFile, version_of}
use Rattle.synoptic_cli.specs.Halts.{Reads}
use Rattle.synoptic_cli.proofs.Rules.{rules-held}
use Rattle.synoptic_cli.proofs.stages.read_rules_stage.Goals as goal

pub returns-in-Ok-clause-ok : goal.returns-in-Ok-clause-ok
returns-in-Ok-clause-ok g c =
    let old = g.I.Inputs.state c.args.inputs.now in
    let new = g.I.Inputs.state c.read_rules.new.inputs in
    let named = sym c.rules_name.ensures ∙ ap (option_map (λ s. s.now)) c.in-Some.is in
    let version = version_of (task_held c.args.task.now).command in
    subst (λ (w : Option (List ℕ)). Reads version (file_stage RulesFile w) c.args.so_far.now old new (record { rules = Some c.in-Ok.rules; material = c.args.so_far.now.material })) (sym named)
    (rules-held version c.args.so_far.now old new c.in-Some.name.now c.in-Ok.rules c.in-Ok.ensures.ok)

pub returns-in-Err-clause-err : goal.returns-in-Err-clause-err
returns-in-Err-clause-err g c =
    let named = sym c.rules_name.ensures ∙ ap (option_map (λ s. s.now)) c.in-Some.is in
    c.in-Err.ensures.err (task_held c.args.task.now) named

pub returns-in-Ok-clause-turn : goal.returns-in-Ok-clause-turn
returns-in-Ok-clause-turn g c =
    let old = g.I.Inputs.state c.args.inputs.now in
    let new = g.I.Inputs.state c.read_rules.new.inputs in
    let named = sym c.rules_name.ensures ∙ ap (option_map (λ s. s.now)) c.in-Some.is in
    subst (λ (w : Option (List ℕ)). OpensFirst (input_names (file_stage RulesFile w)) old new) (sym named) c.read_rules.ensures.turn

pub returns-in-Err-clause-turn : goal.returns-in-Err-clause-turn
returns-in-Err-clause-turn g c =
    let old = g.I.Inputs.state c.args.inputs.now in
    let new = g.I.Inputs.state c.read_rules.new.inputs in
    let named = sym c.rules_name.ensures ∙ ap (option_map (λ s. s.now)) c.in-Some.is in
    subst (λ (w : Option (List ℕ)). OpensFirst (input_names (file_stage RulesFile w)) old new) (sym named) c.read_rules.ensures.turn
