-- What is known of the invariants that merges lose.
use Rattle.std.specs.Prelude.{◌≡◌, ℕ, Option}
use Rattle.partition_model.specs.Graphs.{Graph, Merged}
use Rattle.partition_model.specs.Coarsening.{IsPair}
use Rattle.clashes.specs.Marks.{AreMarksOf}
use Rattle.labelling.specs.Labelled.{Labelling, AreLabelsOf}
use Rattle.coarsener.specs.Deciding.{IsFirstBad}
use Rattle.coarsener.specs.declared.telling.Told.{Told}
use Rattle.coarsener.specs.declared.telling.Told.TheVariants.{Labels, Marks}

-- for each pair, the labels are those of the graph after its merge
abbrev pub TellByLabels : Labelling → Graph → Type 0
TellByLabels planes g = (p q : ℕ) → IsPair g p q → AreLabelsOf planes (Merged g p q)

-- the marks are those of the graph, and the number is that of the first invariant that the graph does not satisfy
pub record TellByMarks (first : Option ℕ) (planes : Labelling) (g : Graph) : Type 0 where
  pub marks : AreMarksOf planes.clashes g
  pub bad : IsFirstBad g planes.invs first
  pub listed : planes.clashes.invs ≡ planes.invs

-- the named data say which invariants the merges of the graph lose
abbrev pub TellsLosses : Told → Labelling → Graph → Type 0
TellsLosses Labels planes g = TellByLabels planes g
TellsLosses (Marks bad) planes g = TellByMarks bad planes g
