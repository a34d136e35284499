use Rattle.std.proofs.Common.{◌≡◌, ◌⊎◌, ◌<◌, ◌/◌, true, ℕ, length, slice_get, Some}
use Rattle.partition_graph.specs.Seen.{seen}
use Rattle.path_finder.specs.Nearness.{is_met}
use Rattle.path_finder.specs.Reaching.{edge_by, IsReaching, MeetsMore}
use Rattle.path_finder.proofs.PairSets.{on}
use Rattle.path_finder.proofs.reach.Reach.follow.Given as goal

abbrev pub invariant-loop-place : goal.invariant-loop-place
invariant-loop-place l =
    record {
      place : l.next < length l.self.list;
      there : slice_get l.self.list l.next ≡ Some l.id;
      reaching : IsReaching (edge_by l.way (seen l.sight.view)) l.next l.self;
      more : MeetsMore l.initial.self l.self;
      followed : (q : ℕ) → edge_by l.way (seen l.sight.view) l.id q ≡ true → (on l.rest (q / 64) ≡ true) ⊎ (is_met l.self q ≡ true);
    }

abbrev pub decreases-loop-place : goal.decreases-loop-place
decreases-loop-place l = l.rest
