use Rattle.std.proofs.Common.{◌≡◌, ℕ}
use Rattle.std.specs.List.{flat_map}
use Rattle.partition_model.specs.Assignments.{Assignment}
use Rattle.partition_model.specs.Listings.{edges_from, ids_below}
use Rattle.partition_graph.specs.Tables.{IsCountedFor}
use Rattle.partition_graph.proofs.lists.edges_of.Given as goal

abbrev pub invariant-loop-p : goal.invariant-loop-p
invariant-loop-p l = (h : Assignment) (n : ℕ) → IsCountedFor l.tables n h → l.list.items ≡ flat_map (edges_from l.used h) (ids_below l.p)
