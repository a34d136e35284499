use Rattle.std.proofs.Common.{◌≡◌, drop}
use Rattle.model_file.specs.Rules.{are_distinct}
use Rattle.model_file.proofs.shape.are_distinct.Given as goal

abbrev pub invariant-texts : goal.invariant-texts
invariant-texts l = are_distinct (drop l.i l.types) ≡ are_distinct l.types
