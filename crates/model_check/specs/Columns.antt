-- Labels of many invariants, in columns.
use Rattle.std.specs.Prelude.{ℕ, ◌≡◌, ◌≢◌, ◌+◌, ◌*◌, ◌<◌, true, false, List, slice_index, slice_get, Some}
use Rattle.limits.specs.declared.TheConstants.{INITIAL, TERMINAL, MAX_PARTITIONS}
use Rattle.invariants.specs.declared.Invariant.{Invariant}
use Rattle.invariants.specs.declared.records.Partition.{Partition}
use Rattle.invariants.specs.declared.records.Listed.{Listed}
use Rattle.invariants.specs.declared.records.Model.{Model}
use Rattle.invariants.specs.Monitors.{step, is_bad}
use Rattle.partition_model.specs.Graphs.{Graph}
use Rattle.model_shape.specs.Shapes.{is_listed}
use Rattle.models.specs.Models.{graph_of, has_state, label_at, IsLabelled}
use Rattle.model_check.specs.States.{IsSource}
use Rattle.model_check.specs.declared.columns.TheConstants.{TOGETHER}

-- the set of an id in a column
abbrev pub at : List ℕ → ℕ → ℕ → ℕ
at sets k p = slice_index sets (p * TOGETHER + k)

-- in each of the first columns, the label of one id is within the source of the other
abbrev pub AreWithin : List ℕ → List ℕ → ℕ → ℕ → ℕ → Type 0
AreWithin labels sources count from to =
    (k s : ℕ) → k < count → has_state (at labels k from) s ≡ true → has_state (at sources k to) s ≡ true

-- the column has the label of each partition's id
abbrev pub AreInColumn : List Partition → List ℕ → List ℕ → ℕ → Type 0
AreInColumn partitions given labels k =
    (p : ℕ) → is_listed p partitions ≡ true → at labels k p ≡ label_at p partitions given

-- the first columns have the labels of the listed invariants from a place on, as far as there are any
abbrev pub HaveLabels : Model → List ℕ → ℕ → ℕ → Type 0
HaveLabels m labels from count =
    (k : ℕ) (l : Listed) → k < count → slice_get m.invariants (from + k) ≡ Some l
    → AreInColumn m.partitions l.labels labels k

-- the column has the sources of the ids of a type, and the former ones of the other ids
pub record HasSources (inv : Invariant) (g : Graph) (typ : ℕ) (labels old sources : List ℕ) (k : ℕ) : Type 0 where
  pub changed : (p : ℕ) → p < MAX_PARTITIONS → g.typ p ≡ typ → IsSource inv typ (at labels k p) (at sources k p)
  pub kept : (p : ℕ) → g.typ p ≢ typ → at sources k p ≡ at old k p

-- the column has the labels of a listed invariant and their sources, and the labels of the two ends are right
pub record IsColumnOf (m : Model) (l : Listed) (labels sources : List ℕ) (k : ℕ) : Type 0 where
  pub start : has_state (label_at INITIAL m.partitions l.labels) (step l.inv 0 ((graph_of m).typ INITIAL))
      ≡ true
  pub end : (s : ℕ) → has_state (label_at TERMINAL m.partitions l.labels) s ≡ true → is_bad l.inv s ≡ false
  pub has_labels : (p : ℕ) → is_listed p m.partitions ≡ true
      → at labels k p ≡ label_at p m.partitions l.labels
  pub has_sources : (p : ℕ) → is_listed p m.partitions ≡ true
      → IsSource l.inv ((graph_of m).typ p) (label_at p m.partitions l.labels) (at sources k p)

-- the first columns are those of the listed invariants from a place on, as far as there are any
abbrev pub AreColumnsOf : Model → List ℕ → List ℕ → ℕ → ℕ → Type 0
AreColumnsOf m labels sources from count =
    (k : ℕ) (l : Listed) → k < count → slice_get m.invariants (from + k) ≡ Some l
    → IsColumnOf m l labels sources k

-- all columns but one are unchanged
abbrev pub SameOthers : List ℕ → List ℕ → ℕ → Type 0
SameOthers old new k = (c p : ℕ) → c < TOGETHER → c ≢ k → at new c p ≡ at old c p

-- the labels of the first listed invariants, up to this count, are inductive
abbrev pub AreLabelledBefore : Model → ℕ → Type 0
AreLabelledBefore m count =
    (i : ℕ) (l : Listed) → slice_get m.invariants i ≡ Some l → i < count → IsLabelled m l
