use Rattle.std.proofs.Common.{◌≡◌, ◌<◌, drop, length, get_or}
use Rattle.std.specs.List.{All}
use Rattle.limits.specs.declared.TheConstants.{MAX_PARTITIONS}
use Rattle.partition_model.specs.Assignments.{Assignment}
use Rattle.replay_check.specs.Shown.{Knows, named_by}
use Rattle.replay_check.proofs.Steps.{IsMerging}
use Rattle.replay_check.proofs.merges.first_wrong_merge.Given as goal

abbrev pub invariant-loop-k : goal.invariant-loop-k
invariant-loop-k l =
    record {
      live_size : length l.live ≡ MAX_PARTITIONS;
      names_size : length l.names ≡ length l.initial.names;
      names_within : All (λ p. p < MAX_PARTITIONS) l.names;
      start : get_or l.names 0 0 ≡ 0;
      end : get_or l.names 1 0 ≡ 1;
      made : (h : Assignment) → Knows h l.initial.live l.types
          → (now : Assignment) × Knows now l.live l.types × (named_by l.names h ≡ now)
          × IsMerging h l.merges now (drop l.k l.merges) l.k;
    }
