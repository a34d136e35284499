use Rattle.std.proofs.Common.{◌≡◌, ◌<◌, ℕ, true}
use Rattle.limits.specs.declared.TheConstants.{INITIAL}
use Rattle.partition_model.specs.Graphs.{Graph}
use Rattle.labelling.specs.PhaseRows.{found}
use Rattle.labelling.specs.Found.{HasStart, IsReachedIn, IsSameBut}
use Rattle.labelling.proofs.propagation.start.Given as goal

abbrev pub invariant-loop-phase : goal.invariant-loop-phase
invariant-loop-phase l =
    record {
      marked : l.phase_rows.marked ≡ true;
      same : (found l.phase_rows).invs ≡ (found l.fn.phase_rows).invs;
      sound : (g : Graph) → g.typ INITIAL ≡ INITIAL → IsReachedIn g (found l.phase_rows);
      others : IsSameBut INITIAL (found l.fn.phase_rows) (found l.phase_rows);
      start : (t : ℕ) → t < l.phase → HasStart t (found l.phase_rows);
    }
