use Rattle.std.proofs.Common.{◌≡◌, ◌<◌, ◌/◌, ◌%◌, ℕ, true}
use Rattle.labelling.specs.declared.layout.TheConstants.{STATES, LAST_PHASE}
use Rattle.labelling.specs.PhaseRows.{found}
use Rattle.labelling.specs.Found.{FollowsAlong, Grows, IsCarried, IsSameBut}
use Rattle.labelling.proofs.propagation.propagate.Given as goal

abbrev pub invariant-loop-place : goal.invariant-loop-place
invariant-loop-place l =
    record {
      marked : l.phase_rows.marked ≡ true;
      grows : Grows (found l.fn.phase_rows) (found l.phase_rows) l.changed;
      sound : FollowsAlong l.link.from l.link.to l.typ (found l.fn.phase_rows) (found l.phase_rows);
      last : IsCarried l.link.from LAST_PHASE l.typ l.link.to LAST_PHASE (found l.fn.phase_rows) (found l.phase_rows);
      others : IsSameBut l.link.to (found l.fn.phase_rows) (found l.phase_rows);
      moves : (m : ℕ) → m < l.place
          → IsCarried l.link.from (m / STATES) l.typ l.link.to (m % STATES) (found l.fn.phase_rows) (found l.phase_rows);
    }
