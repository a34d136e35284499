use Rattle.std.proofs.Common.{◌≡◌, drop}
use Rattle.std.specs.List.{list_all}
use Rattle.model_file.specs.Rules.{listed_holds}
use Rattle.model_file.proofs.shape.invariants_hold.Given as goal

abbrev pub invariant-invariants : goal.invariant-invariants
invariant-invariants l = list_all (listed_holds l.kinds l.types l.partitions) (drop l.listed-index l.invariants) ≡ list_all (listed_holds l.kinds l.types l.partitions) l.invariants
