-- The graph that a view shows.
use Rattle.partition_model.specs.Graphs.{Graph, Merged as merged_graph}
use Rattle.partition_model.specs.Assignments.{G}
use Rattle.partition_model.specs.Coarsening.{IsPair}
use Rattle.partition_graph.specs.Parts.{Parts}
use Rattle.partition_graph.specs.declared.view.View.{View}
use Rattle.partition_graph.specs.declared.view.View.TheVariants.{Plain, Merged}

-- the parts of the viewed graph
abbrev pub parts_seen : View → Parts
parts_seen (Plain g) = g.now
parts_seen (Merged g p q) = g.now

-- the graph that a view shows
abbrev pub seen : View → Graph
seen (Plain g) = G (g.now.traces)
seen (Merged g p q) = merged_graph (G (g.now.traces)) p q

-- the two ids of a merged view are a pair of the graph
abbrev pub IsSound : View → Type 0
IsSound (Plain g) = Unit {0}
IsSound (Merged g p q) = IsPair (G (g.now.traces)) p q
