use Rattle.std.proofs.Common.{◌≡◌, ◌+◌, ◌||◌, ◌&&◌, ◌==◌, ◌∷◌, ℕ, List, drop, get_or, ap, sym, ◌∙◌}
use Rattle.std.proofs.lemmas.List.{drop_more}
use Rattle.invariants.specs.declared.records.Edge.{Edge}
use Rattle.models.specs.Models.{has_edge}
use Rattle.model_check.specs.Rows.{bit}
use Rattle.model_check.proofs.Tabling.{edge_more}
use Rattle.model_check.proofs.sets.mark_edges.Goals as goal

pub loop-edge-preserved : goal.loop-edge-preserved
loop-edge-preserved c =
    let xs : List Edge = c.args.edges.now in
    let i : ℕ = c.loop-edge.edge-index in
    let x : Edge = get_or xs i (record { from = 0; to = 0; count = 0 }) in
    let rows = c.loop-edge.rows in
    let step : drop i xs ≡ x ∷ drop (i + 1) xs = drop_more xs i (record { from = 0; to = 0; count = 0 }) c.loop-edge-test.true in
    λ r k. edge_more (x.from == r && x.to == k) (bit rows r k) (bit c.put.new.self r k) (has_edge r k (drop (i + 1) xs)) (bit c.args.rows.now r k || has_edge r k xs)
    (c.put.ensures r k) (sym (ap (λ ys. bit rows r k || has_edge r k ys) step) ∙ c.loop-edge.invariant r k)
