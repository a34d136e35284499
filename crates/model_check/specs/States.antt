-- Sets of monitor states along edges.
use Rattle.std.specs.Prelude.{ℕ, ◌≡◌, ◌<◌, true, false, List, length, slice_index}
use Rattle.invariants.specs.declared.Invariant.{Invariant}
use Rattle.invariants.specs.declared.records.Edge.{Edge}
use Rattle.limits.specs.declared.TheConstants.{INITIAL}
use Rattle.invariants.specs.Monitors.{step, is_bad}
use Rattle.partition_model.specs.Graphs.{Graph}
use Rattle.models.specs.Models.{has_state}
use Rattle.model_check.specs.declared.states.TheConstants.{SETS, STATES}

-- exactly the states that the type leads into the set
abbrev pub IsSource : Invariant → ℕ → ℕ → ℕ → Type 0
IsSource inv typ set source = (s : ℕ) → s < STATES → has_state source s ≡ has_state set (step inv s typ)

-- the source of each set, for one type
pub record AreSources (inv : Invariant) (typ : ℕ) (sources : List ℕ) : Type 0 where
  pub count : length sources ≡ SETS
  pub each : (set : ℕ) → set < SETS → IsSource inv typ set (slice_index sources set)

-- the type leads each state of the first set to a state of the second
abbrev pub StaysWithin : Invariant → ℕ → ℕ → ℕ → Type 0
StaysWithin inv typ from to = (s : ℕ) → has_state from s ≡ true → has_state to (step inv s typ) ≡ true

-- the same for an edge; its labels are looked up by id
abbrev pub LeadsWithin : Invariant → Graph → List ℕ → Edge → Type 0
LeadsWithin inv g labels e =
    StaysWithin inv (g.typ e.to) (slice_index labels e.from) (slice_index labels e.to)

-- the label of INITIAL has the first state, and the label of TERMINAL has no bad one
pub record AreRightEnds (inv : Invariant) (g : Graph) (initial terminal : ℕ) : Type 0 where
  pub start : has_state initial (step inv 0 (g.typ INITIAL)) ≡ true
  pub end : (s : ℕ) → has_state terminal s ≡ true → is_bad inv s ≡ false
