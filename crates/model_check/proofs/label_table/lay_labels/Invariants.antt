use Rattle.std.proofs.Common.{◌≡◌, ℕ, drop, map}
use Rattle.invariants.specs.Labels.{number_of}
use Rattle.model_shape.specs.Shapes.{is_listed}
use Rattle.models.specs.Models.{label_at}
use Rattle.model_check.specs.Rows.{AreApart}
use Rattle.model_check.proofs.Tabling.{with_table}
use Rattle.model_check.proofs.label_table.lay_labels.Given as goal

abbrev pub invariant-loop-i : goal.invariant-loop-i
invariant-loop-i l =
    record {
      apart : AreApart (drop l.i l.partitions);
      labels : (p : ℕ) → with_table (λ q. is_listed q (drop l.i l.partitions)) (λ q. label_at q (drop l.i l.partitions) (map number_of (drop l.i l.given))) l.sets p ≡ label_at p l.partitions (map number_of l.given);
    }
