use Rattle.std.proofs.Common.{subst, sym}
use Rattle.std.specs.Prelude.{IfOk}
use Rattle.model_file.specs.declared.version.Version.{Version}
use Rattle.synoptic_cli.specs.Halts.{FitsVersion}
use Rattle.synoptic_cli.proofs.ModelStage.{both-ok}
use Rattle.synoptic_cli.proofs.model_stage.read_of.Goals as goal

pub returns-in-One-clause-shaped : goal.returns-in-One-clause-shaped
returns-in-One-clause-shaped c =
    subst (λ (version : Version). IfOk c.read_version_1.result (FitsVersion version)) (sym c.in-One.is) (both-ok c.read_version_1.result _ _ c.read_version_1.ensures.shape c.read_version_1.ensures.first)
