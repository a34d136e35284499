use Rattle.std.proofs.Common.{◌≡◌, ◌||◌, ℕ, drop}
use Rattle.model_check.specs.Rows.{bit, marked}
use Rattle.model_check.proofs.sets.mark_partitions.Given as goal

abbrev pub invariant-loop-partition : goal.invariant-loop-partition
invariant-loop-partition l =
    (r k : ℕ) → (bit l.rows r k || marked r k (drop l.partition-index l.partitions)) ≡ (bit l.initial.rows r k || marked r k l.partitions)
