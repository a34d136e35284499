use Rattle.std.proofs.Common.{refl, subst, sym}
use Rattle.std.specs.Prelude.{IsSome}
use Rattle.std.specs.Option.{option_map}
use Rattle.command_line.specs.Task.{form_held, task_held}
use Rattle.synoptic_cli.specs.Task.{version_of}
use Rattle.synoptic_cli.proofs.LogStage.{ReadAlike, log-first, log-held}
use Rattle.synoptic_cli.proofs.stages.log_stage.read_log_stage.Goals as goal

pub returns-in-Ok-clause-ok : goal.returns-in-Ok-clause-ok
returns-in-Ok-clause-ok g c =
    let law : ReadAlike = λ rs ss ignore join files alike. (c.alike_rules_read_alike.ensures.refusal rs ss ignore join files alike, c.alike_rules_read_alike.ensures.events rs ss ignore join files alike) in
    let reads : IsSome (option_map form_held c.args.task.now.form) = subst (λ f. IsSome (option_map form_held f)) (sym c.in-Some.is) refl in
    log-held law (version_of (task_held c.args.task.now).command) (task_held c.args.task.now) c.args.so_far.now (g.I.Inputs.state c.args.inputs.now) (g.I.Inputs.state c.read_files.new.inputs) c.in-Ok.log reads c.in-Ok.ensures.ok

pub returns-in-Err-clause-err : goal.returns-in-Err-clause-err
returns-in-Err-clause-err g c =
    record {
      reads = subst (λ f. IsSome (option_map form_held f)) (sym c.in-Some.is) refl;
      cause = c.in-Err.ensures.err;
      opens = c.read_files.ensures.opens;
    }

pub returns-in-Ok-clause-turn : goal.returns-in-Ok-clause-turn
returns-in-Ok-clause-turn g c =
    let reads : IsSome (option_map form_held c.args.task.now.form) = subst (λ f. IsSome (option_map form_held f)) (sym c.in-Some.is) refl in
    log-first (task_held c.args.task.now) (g.I.Inputs.state c.args.inputs.now) (g.I.Inputs.state c.read_files.new.inputs) reads c.read_files.ensures.turn

pub returns-in-Err-clause-turn : goal.returns-in-Err-clause-turn
returns-in-Err-clause-turn g c =
    let reads : IsSome (option_map form_held c.args.task.now.form) = subst (λ f. IsSome (option_map form_held f)) (sym c.in-Some.is) refl in
    log-first (task_held c.args.task.now) (g.I.Inputs.state c.args.inputs.now) (g.I.Inputs.state c.read_files.new.inputs) reads c.read_files.ensures.turn
