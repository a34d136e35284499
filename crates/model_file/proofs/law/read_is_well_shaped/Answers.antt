use Rattle.model_file.specs.declared.version.Version.TheVariants.{Two}
use Rattle.model_file.proofs.Telling.{read-is-well-shaped}
use Rattle.model_file.proofs.law.read_is_well_shaped.Goals as goal

pub returns : goal.returns
returns c = read-is-well-shaped Two
