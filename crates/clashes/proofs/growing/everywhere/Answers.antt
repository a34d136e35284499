use Rattle.std.proofs.Common.{true, false}
use Rattle.std.proofs.lemmas.List.{get_or-replicate}
use Rattle.limits.specs.declared.TheConstants.{MAX_PARTITIONS}
use Rattle.clashes.proofs.growing.everywhere.Goals as goal

pub returns-clause-fresh : goal.returns-clause-fresh
returns-clause-fresh c p l = get_or-replicate MAX_PARTITIONS p true false l
