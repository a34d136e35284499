use Rattle.model_file.proofs.Unnamed.{version-1-names-no-kinds}
use Rattle.model_file.proofs.law.version_1_names_no_kinds.Goals as goal

pub returns : goal.returns
returns c = version-1-names-no-kinds
