use Rattle.std.proofs.Common.{◌≡◌, ℕ, length}
use Rattle.limits.specs.declared.TheConstants.{MAX_PARTITIONS}
use Rattle.partition_model.specs.Assignments.{G}
use Rattle.clashes.specs.Changes.{off_in}
use Rattle.clashes.specs.Growing.{IsGrown, IsStill, IsClosedBut}
use Rattle.clashes.proofs.growing.propagate.Given as goal

abbrev pub invariant-passes : goal.invariant-passes
invariant-passes l =
    record {
      grown : IsGrown l.fn.mark_rows l.mark_rows (G l.graph.traces);
      recent_room : length l.recent ≡ MAX_PARTITIONS;
      now_room : length l.now ≡ MAX_PARTITIONS;
      still : (p : ℕ) → IsStill l.now p;
      closed : IsClosedBut l.fn.mark_rows (G l.graph.traces) l.fn.recent → IsClosedBut l.mark_rows (G l.graph.traces) l.recent;
    }

abbrev pub decreases-passes : goal.decreases-passes
decreases-passes l = off_in l.mark_rows
