-- What a type does to the monitor of an invariant, as tests.
use Rattle.std.specs.Prelude.{ℕ, ◌==◌, ◌&&◌, ◌<◌, ◌≤◌, Bool, not, List, All}
use Rattle.limits.specs.declared.TheConstants.{INITIAL}
use Rattle.invariants.specs.declared.Invariant.{Invariant}
use Rattle.invariants.specs.Monitors.{step, is_bad}
use Rattle.merge_law.specs.Critical.{critical, calm_of}

-- whether the type takes the monitor from its calm state to its critical state
abbrev pub enters : Invariant → ℕ → Bool
enters inv x = step inv (calm_of inv.kind) x == critical inv

-- whether the type leaves the monitor in its critical state
abbrev pub stays : Invariant → ℕ → Bool
stays inv x = step inv (critical inv) x == critical inv

-- whether the type takes the monitor from a critical state that is not bad to the bad state
abbrev pub falls : Invariant → ℕ → Bool
falls inv x = is_bad inv (step inv (critical inv) x) && not (is_bad inv (critical inv))

-- whether INITIAL takes the monitor to its critical state
abbrev pub starts : Invariant → Bool
starts inv = step inv 0 INITIAL == critical inv

-- whether the critical state is the bad one
abbrev pub is_bad_itself : Invariant → Bool
is_bad_itself inv = is_bad inv (critical inv)

-- both types of each invariant of the list are below this number
abbrev pub AreNamedBelow : ℕ → List Invariant → Type 0
AreNamedBelow n invs = All (λ inv. (inv.a < n) × (inv.b < n)) invs

-- both types of each invariant of the list are at most this number
abbrev pub AreNamedUpTo : ℕ → List Invariant → Type 0
AreNamedUpTo n invs = All (λ inv. (inv.a ≤ n) × (inv.b ≤ n)) invs
