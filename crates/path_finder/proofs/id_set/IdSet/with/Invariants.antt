use Rattle.std.proofs.Common.{ℕ, ◌<◌, ◌||◌, ◌≡◌, length, slice_index}
use Rattle.partition_graph.specs.NeighbourWords.{IsWordOf}
use Rattle.path_finder.specs.IdSets.{has_id}
use Rattle.path_finder.proofs.id_set.IdSet.with.Given as goal

abbrev pub invariant-loop-place : goal.invariant-loop-place
invariant-loop-place l =
    record {
      size : length l.words ≡ 16;
      words : (place : ℕ) → place < l.place → IsWordOf (λ p. has_id l.self p || has_id l.other p) place (slice_index l.words place);
    }
