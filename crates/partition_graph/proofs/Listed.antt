-- The edges of an id, found one after another.
use Rattle.std.proofs.Common.{◌≡◌, ℕ, zero, suc, ◌+◌, ◌-◌, ◌<◌, ◌≤◌, List, ◌++◌, false, sym, ◌∙◌, subst, arith}
use Rattle.invariants.specs.declared.records.Edge.{Edge}
use Rattle.limits.specs.declared.TheConstants.{MAX_PARTITIONS}
use Rattle.partition_model.specs.Assignments.{Assignment, edge_count}
use Rattle.partition_model.specs.Listings.{edges_from}
use Rattle.partition_model.proofs.OneMore.{no_edge_more}
use Rattle.partition_graph.specs.Marks.{is_counted}
use Rattle.partition_graph.specs.declared.tables.Tables.{Tables}
use Rattle.partition_graph.specs.Tables.{IsCountedFor}
use Rattle.partition_graph.proofs.Rows.{not-counted}

-- the edges of an id to ids below a number are those below a lower one, if it has none between the two
none-between : (h : Assignment) (p from d : ℕ) (before list : List Edge) → ((q : ℕ) → from ≤ q → q < from + d → edge_count h p q ≡ 0) → list ≡ before ++ edges_from from h p → list ≡ before ++ edges_from (from + d) h p
none-between h p from zero before list none e = subst (λ (m : ℕ). list ≡ before ++ edges_from m h p) (omega arith) e
none-between h p from (suc d) before list none e =
    subst (λ (m : ℕ). list ≡ before ++ edges_from m h p) (omega arith)
    (no_edge_more h p (from + d) 0 before list (omega arith) (sym (none (from + d) (omega arith) (omega arith))) (none-between h p from d before list (λ q low high. none q low (omega (arith, high))) e))

-- the edges of an id up to a number, where none is counted from another number up to that one
pub edges-up-to : (t : Tables) (h : Assignment) (n p from to : ℕ) (before list : List Edge) → IsCountedFor t n h → p < MAX_PARTITIONS → from ≤ to → to ≤ MAX_PARTITIONS
    → ((q : ℕ) → from ≤ q → q < to → is_counted t.counts p q ≡ false) → list ≡ before ++ edges_from from h p → list ≡ before ++ edges_from to h p
edges-up-to t h n p from to before list counted low order limit none e =
    subst (λ (m : ℕ). list ≡ before ++ edges_from m h p) (omega (arith, order))
    (none-between h p from (to - from) before list
    (λ q past below. sym (counted.counts_are p q low (omega (arith, below, order, limit))) ∙ not-counted t.counts p q low (omega (arith, below, order, limit)) (none q past (omega (arith, below, order)))) e)
