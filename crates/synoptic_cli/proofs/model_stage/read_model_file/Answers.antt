use Rattle.std.proofs.Common.{subst, sym}
use Rattle.synoptic_cli.specs.Halts.{ModelHalts}
use Rattle.synoptic_cli.proofs.ModelStage.{model-halts, model-read}
use Rattle.synoptic_cli.proofs.model_stage.read_model_file.Goals as goal

pub returns-in-Ok-read_of-clause-ok : goal.returns-in-Ok-read_of-clause-ok
returns-in-Ok-read_of-clause-ok g c =
    model-read c.args.version (g.I.Inputs.state c.args.inputs.now) (g.I.Inputs.state c.read_bytes.new.inputs) c.args.name.now c.in-Ok.bytes.items c.in-Ok-read_of.model c.in-Ok.ensures.gives
    c.in-Ok-read_of.ensures.ok c.in-Ok-read_of.ensures.shaped

pub returns-in-Err-clause-err : goal.returns-in-Err-clause-err
returns-in-Err-clause-err g c =
    let old = g.I.Inputs.state c.args.inputs.now in
    let new = g.I.Inputs.state c.read_bytes.new.inputs in
    subst (ModelHalts c.args.version old new c.args.name.now) (sym c.halt_of.ensures)
    (model-halts c.args.version old new c.args.name.now c.in-Ok.bytes.items c.in-Err.error c.in-Ok.ensures.gives c.in-Err.ensures.err)
