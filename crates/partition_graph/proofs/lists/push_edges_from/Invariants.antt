use Rattle.std.proofs.Common.{◌≡◌, ◌++◌, ◌≤◌, ◌-◌, ℕ}
use Rattle.partition_model.specs.Assignments.{Assignment}
use Rattle.partition_model.specs.Listings.{edges_from}
use Rattle.partition_graph.specs.Tables.{IsCountedFor}
use Rattle.partition_graph.proofs.lists.push_edges_from.Given as goal

abbrev pub invariant-loop-q : goal.invariant-loop-q
invariant-loop-q l =
    record {
      reached : l.reached ≤ l.used;
      edges : (h : Assignment) (n : ℕ) → IsCountedFor l.tables n h → l.list.items ≡ l.initial.list.items ++ edges_from l.reached h l.p;
    }

abbrev pub decreases-loop-q : goal.decreases-loop-q
decreases-loop-q l = l.used - l.reached
