use Rattle.std.proofs.Common.{◌≡◌, drop}
use Rattle.std.specs.List.{list_all}
use Rattle.model_file.specs.Rules.{type_holds}
use Rattle.model_file.proofs.shape.types_hold.Given as goal

abbrev pub invariant-types : goal.invariant-types
invariant-types l = list_all type_holds (drop l.text-index l.types) ≡ list_all type_holds l.types
