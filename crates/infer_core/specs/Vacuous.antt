-- InterruptedBy of a type that no path has twice says nothing: it holds of every path.
use Rattle.std.specs.Prelude.{◌≡◌, ◌≢◌, ◌↔◌, ◌⊎◌, ◌<◌, ◌∷◌, ℕ, Bool, true, false, not, ◌&&◌, if◌then◌else◌, List, Some, length, take, filter, slice_get, slice_index_or}
use Rattle.invariants.specs.declared.Kind.{Kind}
use Rattle.invariants.specs.declared.Kind.TheVariants.{AF, NF, AP, IB}
use Rattle.invariants.specs.declared.Invariant.{Invariant}
use Rattle.invariants.specs.Candidates.{invariant}
use Rattle.limits.specs.declared.TheConstants.{INITIAL}
use Rattle.invariants.specs.Holds.{NeverFollowedBy}
use Rattle.partition_model.specs.Graphs.{Graph, Satisfies, Walk, word}

-- NeverFollowedBy of each type below the bound by itself, at the number of the type
pub record AreOfEachType (bound : ℕ) (invs : List Invariant) : Type 0 where
  pub count : length invs ≡ bound
  pub each : (a : ℕ) → a < bound → slice_get invs a ≡ Some (invariant NF a a)

-- each flag says whether no path of the graph has the type of its number twice
abbrev pub AreMetOnce : Graph → List Bool → Type 0
AreMetOnce g once =
    (a : ℕ) → a < length once → (slice_index_or once a false ≡ true) ↔ Satisfies g (invariant NF a a)

-- whether an invariant of the kind says something about what lies between two events of its first type
abbrev pub for_gaps : Kind → Bool
for_gaps AF = false
for_gaps NF = false
for_gaps AP = false
for_gaps IB = true

-- whether the invariant is for gaps of a type that has none, by the flags of the types; a type without a flag may have some
abbrev pub is_vacuous : List Bool → Invariant → Bool
is_vacuous once inv = for_gaps inv.kind && slice_index_or once inv.a false

-- whether the invariant has to be asked for
abbrev pub is_asked : List Bool → Invariant → Bool
is_asked once inv = not (is_vacuous once inv)

-- the flag of a vacuous invariant is true, and those of the others are those of the invariants asked for, in their order
abbrev pub TellsAll : List Bool → List Invariant → List Bool → List Bool → Type 0
TellsAll once invs told flags =
    (k : ℕ) (inv : Invariant) → slice_get invs k ≡ Some inv
    → slice_index_or flags k false
    ≡ (if is_vacuous once inv then true else slice_index_or told (length (filter (is_asked once) (take k invs))) false)

-- no walk from INITIAL has a type twice whose flag is set
abbrev pub AreMetOnceOnWalks : Graph → List Bool → Type 0
AreMetOnceOnWalks g once =
    (a : ℕ) → slice_index_or once a false ≡ true → (walk : List ℕ) (p : ℕ) → Walk g INITIAL walk p
    → NeverFollowedBy a a (word g (INITIAL ∷ walk))

-- the labels of an invariant are those of the one that is found for it: this is the invariant, or it is vacuous InterruptedBy,
-- and found is AlwaysFollowedBy of its types, which are two
abbrev pub HasLabelsOf : List Bool → Invariant → Invariant → Type 0
HasLabelsOf once found inv =
    (found ≡ inv) ⊎ ((found ≡ invariant AF inv.a inv.b) × (is_vacuous once inv ≡ true) × (inv.a ≢ inv.b))

-- for each invariant the number of one among those asked for that has its labels
abbrev pub Covers : List Bool → List Invariant → List Invariant → List ℕ → Type 0
Covers once invs asked numbers =
    (k : ℕ) (inv : Invariant) → slice_get invs k ≡ Some inv
    → (found : Invariant) × (slice_get asked (slice_index_or numbers k 0) ≡ Some found) × HasLabelsOf once found inv
