use Rattle.std.proofs.Common.{rules}
use Rattle.path_finder.proofs.finder.key_of.Goals as goal

pub returns-in-AP : goal.returns-in-AP
returns-in-AP c = search rules
