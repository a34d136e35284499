use Rattle.std.proofs.Common.{ℕ, ◌<◌, ◌^◌, subst, sym}
use Rattle.outside.specs.Reading.{InputGives}
use Rattle.synoptic_cli.proofs.ModelStage.{few-bytes}
use Rattle.synoptic_cli.proofs.model_stage.read_bytes.Goals as goal

pub read_input-requires : goal.read_input-requires
read_input-requires g c = subst (λ (n : ℕ). n < 2 ^ 32) (sym c.max_bytes.ensures) (few-bytes c.args.version)

pub returns-clause-gives : goal.returns-clause-gives
returns-clause-gives g c =
    subst (λ (limit : ℕ). InputGives (g.I.Inputs.state c.args.inputs.now) c.args.name.now limit c.read_input.result (g.I.Inputs.state c.read_input.new.inputs)) c.max_bytes.ensures c.read_input.ensures.gives
