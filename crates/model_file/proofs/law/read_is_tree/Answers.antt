use Rattle.model_file.proofs.Objects.{read-is-tree}
use Rattle.model_file.proofs.law.read_is_tree.Goals as goal

pub returns : goal.returns
returns c = read-is-tree
