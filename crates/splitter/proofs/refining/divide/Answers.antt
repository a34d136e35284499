use Rattle.std.proofs.Common.{rules}
use Rattle.splitter.proofs.refining.divide.Goals as goal

pub returns-clause-split : goal.returns-clause-split
returns-clause-split c = search rules

pub returns-clause-adds : goal.returns-clause-adds
returns-clause-adds c = search rules
