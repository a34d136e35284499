use Rattle.std.proofs.Common.{◌≡◌, ℕ, false, true, length}
use Rattle.limits.specs.declared.TheConstants.{MAX_PARTITIONS}
use Rattle.partition_graph.specs.Seen.{seen}
use Rattle.clashes.specs.Growing.{as_passed}
use Rattle.labelling.specs.PhaseRows.{found}
use Rattle.labelling.specs.Found.{GrowsIf, IsReachedIn, IsStill}
use Rattle.labelling.proofs.Growing.{ArePropagatedFrom}
use Rattle.labelling.proofs.propagation.follow_all.Given as goal

abbrev pub invariant-loop-done : goal.invariant-loop-done
invariant-loop-done l =
    record {
      marked : l.phase_rows.marked ≡ true;
      recent_room : length l.recent ≡ MAX_PARTITIONS;
      now_room : length l.now ≡ MAX_PARTITIONS;
      grows : GrowsIf (found l.fn.phase_rows) (found l.phase_rows) l.again;
      sound : IsReachedIn (seen l.view) (found l.fn.phase_rows) → IsReachedIn (seen l.view) (found l.phase_rows);
      propagated : ArePropagatedFrom (as_passed l.from_end l.links) (seen l.view) l.done l.recent l.now (found l.phase_rows);
      quiet : l.again ≡ false → (p : ℕ) → IsStill l.now p;
    }
