-- What marks say about merges.
use Rattle.std.specs.Prelude.{ℕ, ◌≡◌, ◌↔◌, ◌<◌, false, slice_get, Some}
use Rattle.limits.specs.declared.TheConstants.{MAX_PARTITIONS}
use Rattle.invariants.specs.declared.Invariant.{Invariant}
use Rattle.partition_model.specs.Graphs.{Satisfies, Merged}
use Rattle.partition_model.specs.Assignments.{Assignment, G, IsTyped}
use Rattle.partition_model.specs.Coarsening.{IsPair}
use Rattle.clashes.specs.Marks.{Marks, AreMarksOf, has_clash}

-- the merge of a pair keeps a satisfied invariant exactly if the two ids do not clash for it
abbrev pub ClashesTell : Type 0
ClashesTell =
    (marks : Marks) (h : Assignment) (p q k : ℕ) (inv : Invariant) → AreMarksOf marks (G h) → IsTyped h
    → IsPair (G h) p q → q < MAX_PARTITIONS → slice_get marks.invs k ≡ Some inv → Satisfies (G h) inv
    → Satisfies (Merged (G h) p q) inv ↔ (has_clash marks k p q ≡ false)
