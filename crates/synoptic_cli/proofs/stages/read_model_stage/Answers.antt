use Rattle.std.proofs.Common.{ℕ, List, Option, ap, subst, sym}
use Rattle.std.specs.Option.{option_map, IsSomeAnd}
use Rattle.model_file.specs.declared.version.Version.{Version}
use Rattle.command_line.specs.Task.{task_held}
use Rattle.outside.specs.Turns.{OpensFirst}
use Rattle.synoptic_cli.specs.Task.{file_stage, input_names, ModelFile, version_of}
use Rattle.synoptic_cli.specs.Halts.{ModelHalts, Reads, ReadsModel}
use Rattle.synoptic_cli.proofs.ModelStage.{model-held}
use Rattle.synoptic_cli.proofs.stages.read_model_stage.Goals as goal

pub returns-in-Ok-clause-ok : goal.returns-in-Ok-clause-ok
returns-in-Ok-clause-ok g c =
    let old = g.I.Inputs.state c.args.inputs.now in
    let new = g.I.Inputs.state c.read_model_file.new.inputs in
    let version = version_of (task_held c.args.task.now).command in
    let named = ap (option_map (λ s. s.now)) c.in-Some.is in
    let read : ReadsModel version old new c.in-Some.name.now c.in-Ok.model =
    subst (λ (v : Version). ReadsModel v old new c.in-Some.name.now c.in-Ok.model) c.version_of.ensures c.in-Ok.ensures.ok in
    subst (λ (w : Option (List ℕ)). Reads version (file_stage (ModelFile version) w) c.args.so_far.now old new (record { rules = c.args.so_far.now.rules; material = record { log = c.args.so_far.now.material.log; model = c.in-Ok.model } })) (sym named)
    (model-held version c.args.so_far.now old new c.in-Some.name.now c.in-Ok.model read)

pub returns-in-Err-clause-err : goal.returns-in-Err-clause-err
returns-in-Err-clause-err g c =
    let old = g.I.Inputs.state c.args.inputs.now in
    let new = g.I.Inputs.state c.read_model_file.new.inputs in
    let version = version_of (task_held c.args.task.now).command in
    let named = ap (option_map (λ s. s.now)) c.in-Some.is in
    let halts : ModelHalts version old new c.in-Some.name.now c.in-Err.halt = subst (λ (v : Version). ModelHalts v old new c.in-Some.name.now c.in-Err.halt) c.version_of.ensures c.in-Err.ensures.err in
    subst (λ (w : Option (List ℕ)). IsSomeAnd w (λ name. ModelHalts version old new name c.in-Err.halt)) (sym named) halts

pub returns-in-Ok-clause-turn : goal.returns-in-Ok-clause-turn
returns-in-Ok-clause-turn g c =
    let old = g.I.Inputs.state c.args.inputs.now in
    let new = g.I.Inputs.state c.read_model_file.new.inputs in
    let version = version_of (task_held c.args.task.now).command in
    let named = ap (option_map (λ s. s.now)) c.in-Some.is in
    subst (λ (w : Option (List ℕ)). OpensFirst (input_names (file_stage (ModelFile version) w)) old new) (sym named) c.read_model_file.ensures.turn

pub returns-in-Err-clause-turn : goal.returns-in-Err-clause-turn
returns-in-Err-clause-turn g c =
    let old = g.I.Inputs.state c.args.inputs.now in
    let new = g.I.Inputs.state c.read_model_file.new.inputs in
    let version = version_of (task_held c.args.task.now).command in
    let named = ap (option_map (λ s. s.now)) c.in-Some.is in
    subst (λ (w : Option (List ℕ)). OpensFirst (input_names (file_stage (ModelFile version) w)) old new) (sym named) c.read_model_file.ensures.turn
