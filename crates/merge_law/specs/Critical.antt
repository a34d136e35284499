-- The critical state of a monitor, and where it is reached in a graph.
use Rattle.std.specs.Prelude.{◌≡◌, ◌≢◌, ℕ, ◌⊎◌, true, List}
use Rattle.limits.specs.declared.TheConstants.{INITIAL, TERMINAL}
use Rattle.invariants.specs.declared.Kind.{Kind}
use Rattle.invariants.specs.declared.Kind.TheVariants.{AF, NF, AP, IB}
use Rattle.invariants.specs.declared.Invariant.{Invariant}
use Rattle.invariants.specs.Monitors.{step, run, is_bad, bad_of}
use Rattle.partition_model.specs.Graphs.{Graph, Walk, word}
use Rattle.partition_model.specs.Labels.{Reached}

-- the critical state of the monitor of each kind
abbrev pub critical_of : Kind → ℕ
critical_of AF = 1
critical_of NF = 1
critical_of AP = 0
critical_of IB = 1

-- the critical state of an invariant's monitor
abbrev pub critical : Invariant → ℕ
critical inv = critical_of inv.kind

-- some walk from INITIAL to p leads the monitor to its critical state
abbrev pub Fore : Invariant → Graph → ℕ → Type 0
Fore inv g p = Reached inv g p (critical inv)

-- some walk from p to TERMINAL leads the monitor from its critical state to its bad one
abbrev pub Back : Invariant → Graph → ℕ → Type 0
Back inv g p =
    (walk : List ℕ) × Walk g p walk TERMINAL
    × (is_bad inv (run inv (critical inv) (word g walk)) ≡ true)

-- the critical state is reached at one of the two ids, and leads to the bad one from the other
abbrev pub Clash : Invariant → Graph → ℕ → ℕ → Type 0
Clash inv g p q = (Fore inv g p × Back inv g q) ⊎ (Fore inv g q × Back inv g p)

-- some path of the graph goes through p
abbrev pub IsOnPath : Graph → ℕ → Type 0
IsOnPath g p = (before after : List ℕ) × Walk g INITIAL before p × Walk g p after TERMINAL

-- the calm state of the monitor of each kind: the farthest from the bad one
abbrev pub calm_of : Kind → ℕ
calm_of AF = 0
calm_of NF = 0
calm_of AP = 1
calm_of IB = 0

-- the type takes the monitor from its calm state to its critical one
abbrev pub Enters : Invariant → ℕ → Type 0
Enters inv x = step inv (calm_of inv.kind) x ≡ critical inv

-- the type keeps the monitor in its critical state
abbrev pub Stays : Invariant → ℕ → Type 0
Stays inv x = step inv (critical inv) x ≡ critical inv

-- the type takes the monitor from its critical state to the bad one, and the two differ
abbrev pub Falls : Invariant → ℕ → Type 0
Falls inv x = (step inv (critical inv) x ≡ bad_of inv.kind) × (bad_of inv.kind ≢ critical inv)
