use Rattle.std.proofs.Common.{◌≡◌, drop, map, nat_lt, unwrap_or}
use Rattle.model_file.specs.Rules.{ascends_from, ascends, place_of}
use Rattle.model_file.proofs.shape.invariants_ascend.Given as goal

abbrev pub invariant-invariants : goal.invariant-invariants
invariant-invariants l = ascends_from nat_lt l.before (map (λ x. unwrap_or (place_of l.kinds l.types x.inv) 0) (drop l.listed-index l.invariants)) ≡ ascends nat_lt (map (λ x. unwrap_or (place_of l.kinds l.types x.inv) 0) l.invariants)
