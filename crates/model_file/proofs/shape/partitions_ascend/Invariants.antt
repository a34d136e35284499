use Rattle.std.proofs.Common.{◌≡◌, drop, map, nat_lt}
use Rattle.model_file.specs.Rules.{ascends_from, ascends}
use Rattle.model_file.proofs.shape.partitions_ascend.Given as goal

abbrev pub invariant-partitions : goal.invariant-partitions
invariant-partitions l = ascends_from nat_lt l.before (map (λ p. p.id) (drop l.partition-index l.partitions)) ≡ ascends nat_lt (map (λ p. p.id) l.partitions)
