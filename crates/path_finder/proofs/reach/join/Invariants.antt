use Rattle.std.proofs.Common.{ℕ, ◌<◌, ◌||◌, ◌≡◌, length, slice_index}
use Rattle.limits.specs.declared.TheConstants.{MAX_PARTITIONS}
use Rattle.partition_graph.specs.NeighbourWords.{IsWordOf}
use Rattle.path_finder.specs.Nearness.{is_met}
use Rattle.path_finder.proofs.reach.join.Given as goal

abbrev pub invariant-loop-place : goal.invariant-loop-place
invariant-loop-place l =
    record {
      size : length l.words ≡ 16;
      words : (place : ℕ) → place < l.place → IsWordOf (λ p. is_met l.ahead p || is_met l.behind p) place (slice_index l.words place);
      sized : 0 < l.place → (length l.ahead.flags ≡ MAX_PARTITIONS) × (length l.behind.flags ≡ MAX_PARTITIONS);
    }
