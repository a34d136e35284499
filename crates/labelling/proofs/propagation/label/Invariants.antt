use Rattle.std.proofs.Common.{◌≡◌, ◌<◌, ℕ, true, length}
use Rattle.limits.specs.declared.TheConstants.{MAX_PARTITIONS}
use Rattle.partition_graph.specs.Seen.{seen}
use Rattle.labelling.specs.declared.layout.TheConstants.{STATES}
use Rattle.labelling.specs.PhaseRows.{found}
use Rattle.labelling.specs.Found.{HasStart, IsReachedIn, IsStill}
use Rattle.labelling.specs.Rounds.{ArePropagated}
use Rattle.labelling.proofs.propagation.label.Given as goal

abbrev pub invariant-labels : goal.invariant-labels
invariant-labels l =
    record {
      marked : l.phase_rows.marked ≡ true;
      same : (found l.phase_rows).invs ≡ (found l.fn.phase_rows).invs;
      sound : IsReachedIn (seen l.view) (found l.phase_rows);
      start : (t : ℕ) → t < STATES → HasStart t (found l.phase_rows);
      recent_room : length l.recent ≡ MAX_PARTITIONS;
      now_room : length l.now ≡ MAX_PARTITIONS;
      none : (p : ℕ) → IsStill l.now p;
      propagated : ArePropagated l.links (seen l.view) l.recent (found l.phase_rows);
    }

abbrev pub decreases-labels : goal.decreases-labels
decreases-labels l = (found l.phase_rows).off
