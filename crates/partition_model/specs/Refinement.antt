-- Refinement: each step splits the partition at which the least violation leaves the traces.
use Rattle.std.specs.Prelude.{◌≡◌, ◌==◌, ◌&&◌, ℕ, zero, suc, pred, ◌+◌, max, if◌then◌else◌, List, [], ◌∷◌, map, slice_index, slice_get, Some}
use Rattle.std.specs.List.{AllByRecursion}
use Rattle.limits.specs.declared.TheConstants.{TERMINAL, FIRST_TYPE}
use Rattle.invariants.specs.declared.Invariant.{Invariant}
use Rattle.invariants.specs.declared.records.Split.{Split}
use Rattle.partition_model.specs.Graphs.{Graph, Satisfies, IsLeastViolation}
use Rattle.partition_model.specs.Assignments.{Event, Assignment, id_list, G, by_type}

-- the first list is a prefix of the second
abbrev pub Begins : List ℕ → List ℕ → Type 0
Begins [] ys = Unit {0}
Begins (x ∷ xs) [] = ⊥
Begins (x ∷ xs) (y ∷ ys) = (x ≡ y) × Begins xs ys

-- how many leading numbers the lists have in common
abbrev pub common : List ℕ → List ℕ → ℕ
common [] ys = 0
common (x ∷ xs) [] = 0
common (x ∷ xs) (y ∷ ys) = if x == y then suc (common xs ys) else 0

-- the length of the longest prefix of the path that is also a prefix of some trace's list of ids
abbrev pub followed : Assignment → List ℕ → ℕ
followed [] path = 0
followed (trace ∷ h) path = max (common path (id_list trace)) (followed h path)

-- the last place of that prefix
abbrev pub stitch : Assignment → List ℕ → ℕ
stitch h path = pred (followed h path)

-- the first id of the suffix after an event, or TERMINAL if it is empty
abbrev pub next_id : List Event → ℕ
next_id [] = TERMINAL
next_id (e ∷ es) = e.id

-- the event's id after the split: n if it was p and the next id is q, otherwise as before
abbrev pub moved_id : ℕ → ℕ → ℕ → Event → List Event → ℕ
moved_id p q n e rest = if e.id == p && next_id rest == q then n else e.id

-- a trace with each event's id after the split
abbrev pub split_trace : ℕ → ℕ → ℕ → List Event → List Event
split_trace p q n [] = []
split_trace p q n (e ∷ es) = record { typ = e.typ; id = moved_id p q n e es } ∷ split_trace p q n es

-- the assignment after the split: the events of p that are directly followed by q have the id n
abbrev pub split : ℕ → ℕ → ℕ → Assignment → Assignment
split p q n h = map (λ trace. split_trace p q n trace) h

-- the assignment after a split of the id at its place on the path, by the id after that place
abbrev pub after_split : ℕ → Split → Assignment → Assignment
after_split n s h = split (slice_index s.path s.place) (slice_index s.path (s.place + 1)) n h

-- the graph satisfies each invariant of the list
abbrev pub SatisfiesAll : Graph → List Invariant → Type 0
SatisfiesAll g invs = AllByRecursion (λ inv. Satisfies g inv) invs

-- k is the number of the first invariant of the list that the graph does not satisfy
abbrev pub IsFirstBroken : Graph → List Invariant → ℕ → Type 0
IsFirstBroken g [] k = ⊥
IsFirstBroken g (inv ∷ invs) zero = Satisfies g inv → ⊥
IsFirstBroken g (inv ∷ invs) (suc k) = Satisfies g inv × IsFirstBroken g invs k

-- the next split: for the first invariant that is broken, at the stitch of its least violation
pub record IsNextSplit (invs : List Invariant) (h : Assignment) (s : Split) : Type 0 where
  pub first : IsFirstBroken (G h) invs s.inv
  pub least : (inv : Invariant) → slice_get invs s.inv ≡ Some inv → IsLeastViolation (G h) inv s.path
  pub place : s.place ≡ stitch h s.path

-- the splits are the whole run of refinement from h, with n for the next id, and it ends with the assignment end
abbrev pub Refines : List Invariant → Assignment → ℕ → List Split → Assignment → Type 0
Refines invs h n [] end = SatisfiesAll (G h) invs × (end ≡ h)
Refines invs h n (s ∷ ss) end = IsNextSplit invs h s × Refines invs (after_split n s h) (suc n) ss end

-- these splits lead from h, with n for the next id, to the assignment end; the run may go on
abbrev pub Splits : List Invariant → Assignment → ℕ → List Split → Assignment → Type 0
Splits invs h n [] end = end ≡ h
Splits invs h n (s ∷ ss) end = IsNextSplit invs h s × Splits invs (after_split n s h) (suc n) ss end

-- the splits are the whole run of refinement of the words of a log with this many types
abbrev pub IsRefined : List Invariant → ℕ → List (List ℕ) → List Split → Assignment → Type 0
IsRefined invs types inner splits end = Refines invs (by_type inner) (types + FIRST_TYPE) splits end
