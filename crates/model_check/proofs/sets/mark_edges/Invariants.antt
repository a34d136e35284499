use Rattle.std.proofs.Common.{◌≡◌, ◌||◌, ℕ, drop}
use Rattle.models.specs.Models.{has_edge}
use Rattle.model_check.specs.Rows.{bit}
use Rattle.model_check.proofs.sets.mark_edges.Given as goal

abbrev pub invariant-loop-edge : goal.invariant-loop-edge
invariant-loop-edge l =
    (r k : ℕ) → (bit l.rows r k || has_edge r k (drop l.edge-index l.edges)) ≡ (bit l.initial.rows r k || has_edge r k l.edges)
