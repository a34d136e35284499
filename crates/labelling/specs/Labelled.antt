-- The labels of invariants: for each id, the set of states that a monitor reaches there, as a number.
use Rattle.std.specs.Prelude.{◌≡◌, ◌↔◌, ℕ, ◌+◌, ◌*◌, ◌<◌, ◌≤◌, ◌==◌, Bool, true, false, if◌then◌else◌, List, [], length, drop, slice_get, slice_index, slice_index_or, Some}
use Rattle.std.specs.Int.{bit_at}
use Rattle.limits.specs.declared.TheConstants.{MAX_PARTITIONS}
use Rattle.invariants.specs.declared.Invariant.{Invariant}
use Rattle.partition_model.specs.Graphs.{Graph, Satisfies}
use Rattle.partition_model.specs.Labels.{Reached}
use Rattle.clashes.specs.Marks.{Marks}
use Rattle.models.specs.Models.{has_state}
use Rattle.labelling.specs.Layout.{is_on, labels_from, label_place}
use Rattle.labelling.specs.Phases.{phase_at}

-- the invariants; for each id and phase, in order, a row with a bit for each invariant; and the marks for the losses of
-- merges
pub record Labelling : Type 0 where
  pub invs : List Invariant
  pub rows : List (List Bool)
  pub clashes : Marks

-- whether the state s of invariant k is found at p
abbrev pub is_found : Labelling → ℕ → ℕ → ℕ → Bool
is_found labels k p s = is_on labels.rows (label_place p (phase_at labels.invs k s)) k

-- a set of states as a number: 1 for the state 0, plus 2 for the state 1, plus 4 for the state 2
abbrev pub number_of : Bool → Bool → Bool → ℕ
number_of zeroth first second =
    (if zeroth then 1 else 0) + (if first then 2 else 0) + (if second then 4 else 0)

-- the label of invariant k at p: the set of states found there
abbrev pub digit : Labelling → ℕ → ℕ → ℕ
digit labels k p = number_of (is_found labels k p 0) (is_found labels k p 1) (is_found labels k p 2)

-- bit k of the word is set exactly if invariant 64 * place + k has state 0 in phase 1, that is, if its phases 0 and 1
-- are swapped
abbrev pub SaysSwapped : List Invariant → ℕ → ℕ → Type 0
SaysSwapped invs place word =
    (k : ℕ) → k < 64 → place * 64 + k < length invs → (bit_at word k == 1) ≡ (phase_at invs (place * 64 + k) 0 == 1)

-- bit k of word s is set exactly if state s of invariant 64 * place + k is found at p
abbrev pub AreStatesAt : Labelling → ℕ → ℕ → List ℕ → Type 0
AreStatesAt labels place p words =
    (k s : ℕ) → k < 64 → place * 64 + k < length labels.invs → s < 3
    → (bit_at (slice_index words s) k == 1) ≡ is_found labels (place * 64 + k) p s

-- each label is exactly the set of states reached in the graph
pub record AreLabelsOf (labels : Labelling) (g : Graph) : Type 0 where
  pub states : (k : ℕ) (inv : Invariant) (p s : ℕ) → slice_get labels.invs k ≡ Some inv
      → p < MAX_PARTITIONS → s < 3 → (has_state (digit labels k p) s ≡ true) ↔ Reached inv g p s
  pub small : (k p : ℕ) → digit labels k p ≤ 7

-- the label rows of a table, with marks
abbrev pub labelling_in : ℕ → List Invariant → List (List Bool) → Marks → Labelling
labelling_in bound invs table marks = record { invs = invs; rows = drop (labels_from bound) table; clashes = marks }

-- no marks, of no invariants
abbrev pub no_marks : Marks
no_marks = record { invs = []; fores = []; backs = [] }

-- only the marks may differ, and they have the same invariants
pub record KeepsLabels (old new : Labelling) : Type 0 where
  pub invs : new.invs ≡ old.invs
  pub rows : new.rows ≡ old.rows
  pub listed : new.clashes.invs ≡ new.invs

-- each flag says whether the graph satisfies the invariant of its number
abbrev pub SaysSatisfied : Graph → List Invariant → List Bool → Type 0
SaysSatisfied g invs flags =
    (k : ℕ) (inv : Invariant) → slice_get invs k ≡ Some inv
    → (slice_index_or flags k false ≡ true) ↔ Satisfies g inv
