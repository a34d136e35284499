use Rattle.std.proofs.Common.{◌≡◌, ℕ, drop, length}
use Rattle.limits.specs.declared.TheConstants.{MAX_PARTITIONS}
use Rattle.model_shape.specs.Shapes.{listed_type, is_listed}
use Rattle.model_check.specs.Rows.{AreApart}
use Rattle.model_check.proofs.Tabling.{with_table}
use Rattle.model_check.proofs.graph.types_of.Given as goal

abbrev pub invariant-loop-partition : goal.invariant-loop-partition
invariant-loop-partition l =
    record {
      size : length l.types.items ≡ MAX_PARTITIONS;
      apart : AreApart (drop l.partition-index l.partitions);
      types : (p : ℕ) → with_table (λ q. is_listed q (drop l.partition-index l.partitions)) (λ q. listed_type q (drop l.partition-index l.partitions)) l.types.items p ≡ listed_type p l.partitions;
    }
