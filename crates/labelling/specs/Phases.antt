-- The phases of a monitor: its states, numbered by distance from the bad end.
use Rattle.std.specs.Prelude.{ℕ, ◌==◌, if◌then◌else◌, List, slice_index_or}
use Rattle.limits.specs.declared.TheConstants.{INITIAL}
use Rattle.invariants.specs.declared.Kind.{Kind}
use Rattle.invariants.specs.declared.Kind.TheVariants.{AF, NF, AP, IB}
use Rattle.invariants.specs.declared.Invariant.{Invariant}
use Rattle.invariants.specs.Candidates.{invariant}
use Rattle.invariants.specs.Monitors.{step}
use Rattle.partition_model.specs.Graphs.{Graph}
use Rattle.partition_model.specs.Labels.{Reached}

-- the phase of a state, and also the state of a phase; phase 0 is farthest from the bad end
abbrev pub phase_of : Kind → ℕ → ℕ
phase_of AF s = s
phase_of NF s = s
phase_of AP s = if s == 0 then 1 else (if s == 1 then 0 else s)
phase_of IB s = s

-- the phase after the type x is read in a phase
abbrev pub turn : Invariant → ℕ → ℕ → ℕ
turn inv f x = phase_of inv.kind (step inv (phase_of inv.kind f) x)

-- the phase in which the monitor is at INITIAL
abbrev pub first_phase : Invariant → ℕ
first_phase inv = phase_of inv.kind (step inv 0 INITIAL)

-- some walk from INITIAL to p takes the monitor to the phase
abbrev pub ReachedIn : Invariant → Graph → ℕ → ℕ → Type 0
ReachedIn inv g p f = Reached inv g p (phase_of inv.kind f)

-- the phase of a state for the invariant with this number
abbrev pub phase_at : List Invariant → ℕ → ℕ → ℕ
phase_at invs k s = phase_of (slice_index_or invs k (invariant AF 0 0)).kind s
