use Rattle.std.proofs.Common.{◌≡◌, ◌∙◌, Err, ap, subst, sym}
use Rattle.log_reader.specs.declared.refusal.ReadError.TheVariants as refused
use Rattle.command_line.specs.Task.{task_held}
use Rattle.synoptic_cli.specs.declared.status.Status.{Status}
use Rattle.synoptic_cli.specs.declared.model_stage.ModelHalt.TheVariants as halts
use Rattle.synoptic_cli.specs.Task.{model_stages, rules_stages, version_of}
use Rattle.synoptic_cli.specs.Halts.{Ends}
use Rattle.synoptic_cli.proofs.LogStage.{ReadAlike}
use Rattle.synoptic_cli.proofs.ModelStage.{halt-memory, model-stage-ends}
use Rattle.synoptic_cli.proofs.Through.{reads-both, stays-both}
use Rattle.synoptic_cli.proofs.Ends.{last-turn, log-memory, log-stage-ends, model-turn, rules-faults, rules-turn, stage-faults, task-read}
use Rattle.synoptic_cli.proofs.stages.read_stages.Goals as goal

pub returns-in-Ok-read_log_stage-clause-ok : goal.returns-in-Ok-read_log_stage-clause-ok
returns-in-Ok-read_log_stage-clause-ok g c =
    let task = task_held c.args.task.now in
    let old = g.I.Inputs.state c.args.inputs.now in
    let mid = g.I.Inputs.state c.read_rules_stage.new.inputs in
    let next = g.I.Inputs.state c.read_model_stage.new.inputs in
    let first =
    reads-both (version_of task.command) (rules_stages task) (model_stages task) c.args.so_far.now c.read_rules_stage.new.so_far c.read_model_stage.new.so_far old mid next c.read_rules_stage.ensures.stays
    c.in-Ok.ensures.ok c.in-Ok-read_model_stage.ensures.ok in
    task-read task c.args.so_far.now c.read_model_stage.new.so_far old next (g.I.Inputs.state c.read_log_stage.new.inputs) c.read_log_stage.new.so_far c.requires.start
    (stays-both old mid next c.read_rules_stage.ensures.stays c.read_model_stage.ensures.stays) first c.in-Ok-read_log_stage.ensures.ok

pub returns-in-Err-read_log_stage-clause-memory : goal.returns-in-Err-read_log_stage-clause-memory
returns-in-Err-read_log_stage-clause-memory g c = λ is.
    let task = task_held c.args.task.now in
    let old = g.I.Inputs.state c.args.inputs.now in
    let mid = g.I.Inputs.state c.read_rules_stage.new.inputs in
    let next = g.I.Inputs.state c.read_model_stage.new.inputs in
    let first =
    reads-both (version_of task.command) (rules_stages task) (model_stages task) c.args.so_far.now c.read_rules_stage.new.so_far c.read_model_stage.new.so_far old mid next c.read_rules_stage.ensures.stays
    c.in-Ok.ensures.ok c.in-Ok-read_model_stage.ensures.ok in
    let wanted : c.in-Err-read_log_stage.error ≡ refused.Memory = log-memory c.in-Err-read_log_stage.error (sym c.status_of.ensures ∙ cc is) in
    c.in-Err-read_log_stage.ensures.memory (ap Err wanted) ∙ stage-faults task c.args.so_far.now c.read_model_stage.new.so_far old next c.requires.start first

pub returns-in-Err-read_log_stage-clause-err : goal.returns-in-Err-read_log_stage-clause-err
returns-in-Err-read_log_stage-clause-err g c =
    let law : ReadAlike = λ rs ss ignore join files alike. (c.alike_rules_read_alike.ensures.refusal rs ss ignore join files alike, c.alike_rules_read_alike.ensures.events rs ss ignore join files alike) in
    let task = task_held c.args.task.now in
    let old = g.I.Inputs.state c.args.inputs.now in
    let mid = g.I.Inputs.state c.read_rules_stage.new.inputs in
    let next = g.I.Inputs.state c.read_model_stage.new.inputs in
    let new = g.I.Inputs.state c.read_log_stage.new.inputs in
    let before = g.P.Patterns.state c.args.patterns.now in
    let after = g.P.Patterns.state c.read_rules_stage.new.patterns in
    let first =
    reads-both (version_of task.command) (rules_stages task) (model_stages task) c.args.so_far.now c.read_rules_stage.new.so_far c.read_model_stage.new.so_far old mid next c.read_rules_stage.ensures.stays
    c.in-Ok.ensures.ok c.in-Ok-read_model_stage.ensures.ok in
    subst (λ (status : Status). Ends status task old new before after) (sym c.status_of.ensures)
    (log-stage-ends law task c.args.so_far.now c.read_model_stage.new.so_far old next new before after c.in-Err-read_log_stage.error c.requires.start
    (stays-both old mid next c.read_rules_stage.ensures.stays c.read_model_stage.ensures.stays) first c.in-Err-read_log_stage.ensures.err)

pub returns-in-Err-read_model_stage-clause-memory : goal.returns-in-Err-read_model_stage-clause-memory
returns-in-Err-read_model_stage-clause-memory g c = λ is.
    let wanted : c.in-Err-read_model_stage.halt ≡ halts.Memory = halt-memory c.in-Err-read_model_stage.halt (sym c.halt_status.ensures ∙ cc is) in
    c.in-Err-read_model_stage.ensures.memory (ap Err wanted)
    ∙ rules-faults (task_held c.args.task.now) c.args.so_far.now c.read_rules_stage.new.so_far (g.I.Inputs.state c.args.inputs.now) (g.I.Inputs.state c.read_rules_stage.new.inputs) c.requires.start c.in-Ok.ensures.ok

pub returns-in-Err-read_model_stage-clause-err : goal.returns-in-Err-read_model_stage-clause-err
returns-in-Err-read_model_stage-clause-err g c =
    let task = task_held c.args.task.now in
    let old = g.I.Inputs.state c.args.inputs.now in
    let new = g.I.Inputs.state c.read_model_stage.new.inputs in
    let before = g.P.Patterns.state c.args.patterns.now in
    let after = g.P.Patterns.state c.read_rules_stage.new.patterns in
    subst (λ (status : Status). Ends status task old new before after) (sym c.halt_status.ensures)
    (model-stage-ends task c.args.so_far.now c.read_rules_stage.new.so_far old (g.I.Inputs.state c.read_rules_stage.new.inputs) new before after c.in-Err-read_model_stage.halt c.requires.start
    c.read_rules_stage.ensures.stays c.in-Ok.ensures.ok c.in-Err-read_model_stage.ensures.err)

pub returns-in-Err-clause-turn : goal.returns-in-Err-clause-turn
returns-in-Err-clause-turn g c =
    let task = task_held c.args.task.now in
    let old = g.I.Inputs.state c.args.inputs.now in
    let mid = g.I.Inputs.state c.read_rules_stage.new.inputs in
    rules-turn task old mid c.read_rules_stage.ensures.turn

pub returns-in-Err-read_model_stage-clause-turn : goal.returns-in-Err-read_model_stage-clause-turn
returns-in-Err-read_model_stage-clause-turn g c =
    let task = task_held c.args.task.now in
    let old = g.I.Inputs.state c.args.inputs.now in
    let mid = g.I.Inputs.state c.read_rules_stage.new.inputs in
    model-turn task c.args.so_far.now c.read_rules_stage.new.so_far old mid (g.I.Inputs.state c.read_model_stage.new.inputs) c.requires.start c.read_rules_stage.ensures.stays c.in-Ok.ensures.ok c.read_model_stage.ensures.turn

pub returns-in-Err-read_log_stage-clause-turn : goal.returns-in-Err-read_log_stage-clause-turn
returns-in-Err-read_log_stage-clause-turn g c =
    let task = task_held c.args.task.now in
    let old = g.I.Inputs.state c.args.inputs.now in
    let mid = g.I.Inputs.state c.read_rules_stage.new.inputs in
    let next = g.I.Inputs.state c.read_model_stage.new.inputs in
    let first =
    reads-both (version_of task.command) (rules_stages task) (model_stages task) c.args.so_far.now c.read_rules_stage.new.so_far c.read_model_stage.new.so_far old mid next c.read_rules_stage.ensures.stays
    c.in-Ok.ensures.ok c.in-Ok-read_model_stage.ensures.ok in
    last-turn task c.args.so_far.now c.read_model_stage.new.so_far old next (g.I.Inputs.state c.read_log_stage.new.inputs) c.requires.start (stays-both old mid next c.read_rules_stage.ensures.stays c.read_model_stage.ensures.stays) first
    c.read_log_stage.ensures.turn

pub returns-in-Ok-read_log_stage-clause-turn : goal.returns-in-Ok-read_log_stage-clause-turn
returns-in-Ok-read_log_stage-clause-turn g c =
    let task = task_held c.args.task.now in
    let old = g.I.Inputs.state c.args.inputs.now in
    let mid = g.I.Inputs.state c.read_rules_stage.new.inputs in
    let next = g.I.Inputs.state c.read_model_stage.new.inputs in
    let first =
    reads-both (version_of task.command) (rules_stages task) (model_stages task) c.args.so_far.now c.read_rules_stage.new.so_far c.read_model_stage.new.so_far old mid next c.read_rules_stage.ensures.stays
    c.in-Ok.ensures.ok c.in-Ok-read_model_stage.ensures.ok in
    last-turn task c.args.so_far.now c.read_model_stage.new.so_far old next (g.I.Inputs.state c.read_log_stage.new.inputs) c.requires.start (stays-both old mid next c.read_rules_stage.ensures.stays c.read_model_stage.ensures.stays) first
    c.read_log_stage.ensures.turn
