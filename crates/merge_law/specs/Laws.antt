-- Laws on what a merge loses.
use Rattle.std.specs.Prelude.{◌≡◌, ◌↔◌, ℕ, ◌<◌, ◌≤◌, ◌⊎◌, Bool, true, List}
use Rattle.std.specs.List.{AllByRecursion}
use Rattle.limits.specs.declared.TheConstants.{INITIAL, TERMINAL, FIRST_TYPE}
use Rattle.invariants.specs.declared.Invariant.{Invariant}
use Rattle.invariants.specs.Monitors.{step, bad_of}
use Rattle.partition_model.specs.Graphs.{Graph, Breaks, Satisfies, Merged}
use Rattle.partition_model.specs.Assignments.{Assignment, G, IsTyped}
use Rattle.partition_model.specs.Coarsening.{merge, onto, IsPair}
use Rattle.partition_model.specs.Refinement.{SatisfiesAll}
use Rattle.merge_law.specs.Critical.{critical, Fore, Back, Clash, IsOnPath, Enters, Stays, Falls}

-- if the graph satisfies the invariant, some path of the merged graph breaks it exactly if the two ids clash
abbrev pub MergeLoses : Type 0
MergeLoses =
    (g : Graph) (inv : Invariant) (p q : ℕ) → FIRST_TYPE ≤ p → p < q → g.typ p ≡ g.typ q
    → IsOnPath g p → IsOnPath g q → Satisfies g inv
    → ((path : List ℕ) × Breaks (Merged g p q) inv path) ↔ Clash inv g p q

-- so the merged graph satisfies it exactly if they do not clash
abbrev pub MergeKeeps : Type 0
MergeKeeps =
    (g : Graph) (inv : Invariant) (p q : ℕ) → FIRST_TYPE ≤ p → p < q → g.typ p ≡ g.typ q
    → IsOnPath g p → IsOnPath g q → Satisfies g inv
    → Satisfies (Merged g p q) inv ↔ (Clash inv g p q → ⊥)

-- each partition of an assignment's graph is on a path
abbrev pub AllOnPaths : Type 0
AllOnPaths =
    (h : Assignment) (p : ℕ) → IsTyped h → FIRST_TYPE ≤ p → (G h).listed p ≡ true → IsOnPath (G h) p

-- an id that is reached in the critical state, leads from it to the bad one, or is on a path,
-- is so in the merged graph too
abbrev pub MergedHasMore : Type 0
MergedHasMore =
    (g : Graph) (inv : Invariant) (p q u : ℕ) → FIRST_TYPE ≤ p → p < q → g.typ p ≡ g.typ q
    → (Fore inv g u → Fore inv (Merged g p q) (onto p q u))
    × (Back inv g u → Back inv (Merged g p q) (onto p q u))
    × (IsOnPath g u → IsOnPath (Merged g p q) (onto p q u))

-- if the merge keeps the invariant, the first two are so of the merged id exactly if they were of one of the two ids
abbrev pub MergedIsUnion : Type 0
MergedIsUnion =
    (g : Graph) (inv : Invariant) (p q : ℕ) → FIRST_TYPE ≤ p → p < q → g.typ p ≡ g.typ q
    → IsOnPath g p → IsOnPath g q → Satisfies (Merged g p q) inv
    → (Fore inv (Merged g p q) p ↔ (Fore inv g p ⊎ Fore inv g q))
    × (Back inv (Merged g p q) p ↔ (Back inv g p ⊎ Back inv g q))

-- a merge of a pair keeps every invariant of a list exactly if the two ids clash for none of them
abbrev pub PairKeeps : Type 0
PairKeeps =
    (h : Assignment) (p q : ℕ) (invs : List Invariant)
    → IsTyped h → IsPair (G h) p q → SatisfiesAll (G h) invs
    → SatisfiesAll (G (merge p q h)) invs ↔ AllByRecursion (λ inv. Clash inv (G h) p q → ⊥) invs

-- rules that find where the critical state is reached: at INITIAL if its type leads there, and along an edge
-- to a type that enters the critical state, or keeps it if it is reached at the source
abbrev pub ForeFollows : Type 0
ForeFollows =
    (g : Graph) (inv : Invariant) → Satisfies g inv
    → (step inv 0 (g.typ INITIAL) ≡ critical inv → Fore inv g INITIAL)
    × ((u v : ℕ) → IsOnPath g u → IsOnPath g v → g.edge u v ≡ true
    → Enters inv (g.typ v) ⊎ (Stays inv (g.typ v) × Fore inv g u) → Fore inv g v)

-- and they find every id where it is reached
abbrev pub ForeIsLeast : Type 0
ForeIsLeast =
    (g : Graph) (inv : Invariant) (found : ℕ → Bool)
    → (step inv 0 (g.typ INITIAL) ≡ critical inv → found INITIAL ≡ true)
    → ((u v : ℕ) → g.edge u v ≡ true
    → Enters inv (g.typ v) ⊎ (Stays inv (g.typ v) × (found u ≡ true)) → found v ≡ true)
    → (p : ℕ) → Fore inv g p → found p ≡ true

-- rules that find where the critical state leads to the bad one: at TERMINAL if the two are the same, and against
-- an edge to a type that falls into the bad state, or keeps the critical one if it leads there from the target
abbrev pub BackFollows : Type 0
BackFollows =
    (g : Graph) (inv : Invariant)
    → (critical inv ≡ bad_of inv.kind → Back inv g TERMINAL)
    × ((u v : ℕ) → IsOnPath g v → g.edge u v ≡ true
    → Falls inv (g.typ v) ⊎ (Stays inv (g.typ v) × Back inv g v) → Back inv g u)

-- and they find every such id on a path
abbrev pub BackIsLeast : Type 0
BackIsLeast =
    (g : Graph) (inv : Invariant) (found : ℕ → Bool) → Satisfies g inv
    → (critical inv ≡ bad_of inv.kind → found TERMINAL ≡ true)
    → ((u v : ℕ) → g.edge u v ≡ true
    → Falls inv (g.typ v) ⊎ (Stays inv (g.typ v) × (found v ≡ true)) → found u ≡ true)
    → (p : ℕ) → IsOnPath g p → Back inv g p → found p ≡ true
