-- The phases that monitors were found to reach.
use Rattle.std.specs.Prelude.{◌≡◌, ◌≢◌, ◌↔◌, ℕ, ◌<◌, ◌≤◌, Bool, true, false, List, slice_get, slice_index_or, Some}
use Rattle.limits.specs.declared.TheConstants.{MAX_PARTITIONS, INITIAL, TERMINAL}
use Rattle.invariants.specs.declared.Invariant.{Invariant}
use Rattle.invariants.specs.Monitors.{bad_of}
use Rattle.partition_model.specs.Graphs.{Graph}
use Rattle.labelling.specs.declared.layout.TheConstants.{STATES, LAST_PHASE}
use Rattle.labelling.specs.Phases.{first_phase, turn, ReachedIn}

-- the invariants; whether a phase of invariant k is found at an id; which invariants are noted as broken; and how many
-- bits are off
pub record Found : Type 0 where
  pub invs : List Invariant
  pub has : ℕ → ℕ → ℕ → Bool
  pub broken : ℕ → Bool
  pub off : ℕ

-- no phase is found at any id
pub record IsNothing (found : Found) : Type 0 where
  pub has : (k p s : ℕ) → p < MAX_PARTITIONS → s < STATES → found.has k p s ≡ false

-- every phase found is reached in the graph
abbrev pub IsReachedIn : Graph → Found → Type 0
IsReachedIn g found =
    (k : ℕ) (inv : Invariant) (p s : ℕ) → slice_get found.invs k ≡ Some inv → p < MAX_PARTITIONS → s < STATES
    → found.has k p s ≡ true → ReachedIn inv g p s

-- the phases found are exactly those reached in the graph
abbrev pub IsExact : Graph → Found → Type 0
IsExact g found =
    (k : ℕ) (inv : Invariant) (p s : ℕ) → slice_get found.invs k ≡ Some inv → p < MAX_PARTITIONS → s < STATES
    → (found.has k p s ≡ true) ↔ ReachedIn inv g p s

-- all phases found stay found; the flag says whether bits were added
pub record Grows (old new : Found) (changed : Bool) : Type 0 where
  pub same : new.invs ≡ old.invs
  pub keeps : (k p s : ℕ) → old.has k p s ≡ true → new.has k p s ≡ true
  pub fewer : new.off ≤ old.off
  pub still : changed ≡ false → new ≡ old
  pub falls : changed ≡ true → new.off < old.off

-- all phases found stay found; if the flag is true, bits were added
pub record GrowsIf (old new : Found) (more : Bool) : Type 0 where
  pub same : new.invs ≡ old.invs
  pub keeps : (k p s : ℕ) → old.has k p s ≡ true → new.has k p s ≡ true
  pub fewer : new.off ≤ old.off
  pub falls : more ≡ true → new.off < old.off

-- every phase newly found is reached, in any graph whose INITIAL has its own type
abbrev pub StartsAt : Found → Found → Type 0
StartsAt old new = (g : Graph) → g.typ INITIAL ≡ INITIAL → IsReachedIn g old → IsReachedIn g new

-- every phase newly found is reached, in any graph with an edge from p to q and x as the type of q
abbrev pub FollowsAlong : ℕ → ℕ → ℕ → Found → Found → Type 0
FollowsAlong p q x old new =
    (g : Graph) → g.edge p q ≡ true → g.typ q ≡ x → IsReachedIn g old → IsReachedIn g new

-- the phase t is found at INITIAL for each invariant whose first phase it is
abbrev pub HasStart : ℕ → Found → Type 0
HasStart t found =
    (k : ℕ) (inv : Invariant) → slice_get found.invs k ≡ Some inv → first_phase inv ≡ t
    → found.has k INITIAL t ≡ true

-- if the phase s was found at p and x turns it into t, then t is found at q
abbrev pub IsCarried : ℕ → ℕ → ℕ → ℕ → ℕ → Found → Found → Type 0
IsCarried p s x q t old new =
    (k : ℕ) (inv : Invariant) → slice_get old.invs k ≡ Some inv → old.has k p s ≡ true
    → turn inv s x ≡ t → new.has k q t ≡ true

-- each phase found at p is found at q after x turned it; turns out of the last phase are left out
abbrev pub IsPropagated : ℕ → ℕ → ℕ → Found → Found → Type 0
IsPropagated p x q old new =
    (s t : ℕ) → s < STATES → t < STATES → (s ≡ LAST_PHASE → t ≡ LAST_PHASE) → IsCarried p s x q t old new

-- nothing new is found at ids other than q
abbrev pub IsSameBut : ℕ → Found → Found → Type 0
IsSameBut q old new = (k p s : ℕ) → p ≢ q → s < STATES → new.has k p s ≡ true → old.has k p s ≡ true

-- the id is not marked
abbrev pub IsStill : List Bool → ℕ → Type 0
IsStill marks p = slice_index_or marks p false ≡ false

-- if all found at p was propagated to q unless p was marked, it now is unless p is marked now
abbrev pub IsFollowed : ℕ → ℕ → ℕ → List Bool → List Bool → List Bool → Found → Found → Type 0
IsFollowed p x q recent was marks old new =
    (IsStill recent p → IsStill was p → IsPropagated p x q old old) → IsStill marks p → IsPropagated p x q new new

-- the invariants noted as broken are those whose bad phase is found at TERMINAL; that phase has the bad state's number
abbrev pub AreNoted : Found → Type 0
AreNoted found =
    (k : ℕ) (inv : Invariant) → slice_get found.invs k ≡ Some inv
    → found.broken k ≡ found.has k TERMINAL (bad_of inv.kind)
