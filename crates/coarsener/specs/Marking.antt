-- Which graph the marks belong to.
use Rattle.std.specs.Prelude.{◌≡◌, ℕ, ◌<◌, Bool, true, false}
use Rattle.limits.specs.declared.TheConstants.{MAX_PARTITIONS}
use Rattle.partition_model.specs.Assignments.{Assignment, G, IsTyped}
use Rattle.partition_model.specs.Coarsening.{merge, IsPair}
use Rattle.partition_graph.specs.Parts.{Parts}
use Rattle.clashes.specs.Marks.{AreMarksOf}
use Rattle.labelling.specs.Labelled.{Labelling}
use Rattle.coarsener.specs.declared.pairs.Pair.{Pair}
use Rattle.coarsener.specs.declared.merging.Marked.{Marked}
use Rattle.coarsener.specs.declared.merging.Marked.TheVariants.{Nothing, Before, Now}

-- how many steps it takes to bring the marks up to date with the graph
abbrev pub owed : Marked → ℕ
owed Nothing = 1
owed (Before pair) = 1
owed Now = 0

-- whether the pair examined last stays apart
abbrev pub stays_apart : Marked → Bool
stays_apart Nothing = false
stays_apart (Before pair) = false
stays_apart Now = true

-- the marks are those of an earlier graph, and the merge of this pair turned it into the present one
pub record AreMarksBefore (pair : Pair) (planes : Labelling) (parts : Parts) : Type 0 where
  pub old : Assignment
  pub typed : IsTyped old
  pub is_pair : IsPair (G old) pair.p pair.q
  pub limit : pair.q < MAX_PARTITIONS
  pub merged : parts.traces ≡ merge pair.p pair.q old
  pub marks : AreMarksOf planes.clashes (G old)

-- the marks are those of the graph, with the invariants of the planes
pub record AreMarksNow (planes : Labelling) (parts : Parts) : Type 0 where
  pub marks : AreMarksOf planes.clashes (G parts.traces)
  pub listed : planes.clashes.invs ≡ planes.invs

-- the marks are those of the named graph
abbrev pub AreMarkedAs : Marked → Labelling → Parts → Type 0
AreMarkedAs Nothing planes parts = Unit {0}
AreMarkedAs (Before pair) planes parts = AreMarksBefore pair planes parts
AreMarkedAs Now planes parts = AreMarksNow planes parts
