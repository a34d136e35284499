use Rattle.model_file.proofs.Objects.{version-1-is-tree}
use Rattle.model_file.proofs.law.version_1_is_tree.Goals as goal

pub returns : goal.returns
returns c = version-1-is-tree
