-- Views without their merge.
use Rattle.std.specs.Prelude.{ℕ, ◌≡◌}
use Rattle.partition_graph.specs.Seen.{seen}
use Rattle.partition_graph.specs.declared.view.View.{View}
use Rattle.partition_graph.specs.declared.view.View.TheVariants.{Plain, Merged}

-- the view of the same graph without a merge
abbrev pub unmerged : View → View
unmerged (Plain g) = Plain g
unmerged (Merged g p q) = Plain g

-- the edges to the id are the same without the merge
abbrev pub IsUnmergedAt : View → ℕ → Type 0
IsUnmergedAt v id = (p : ℕ) → (seen v).edge p id ≡ (seen (unmerged v)).edge p id
