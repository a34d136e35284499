use Rattle.std.proofs.Common.{◌≡◌, ◌+◌, ◌<◌, ◌≤◌, drop, length}
use Rattle.std.specs.List.{All}
use Rattle.limits.specs.declared.TheConstants.{MAX_PARTITIONS}
use Rattle.partition_model.specs.Assignments.{Assignment}
use Rattle.replay_check.specs.Shown.{AreBlank, Shows}
use Rattle.replay_check.proofs.Steps.{IsSplitting}
use Rattle.replay_check.proofs.splits.first_wrong_split.Given as goal

abbrev pub invariant-loop-k : goal.invariant-loop-k
invariant-loop-k l =
    record {
      room : l.first + l.k ≤ MAX_PARTITIONS;
      size : length l.types ≡ MAX_PARTITIONS;
      count : length l.ids ≡ length l.initial.ids;
      within : All (λ p. p < MAX_PARTITIONS) l.ids;
      blank : AreBlank l.edges.rows;
      made : (h : Assignment) → Shows h l.first l.initial.ids l.initial.types
          → (now : Assignment) × Shows now (l.first + l.k) l.ids l.types
          × IsSplitting l.model h l.first l.model.splits now (l.first + l.k) (drop l.k l.model.splits) l.k;
    }
