use Rattle.std.proofs.Common.{◌++◌, ℕ, true, List, [], ◌∷◌, map, ap, sym, ◌∙◌}
use Rattle.std.proofs.lemmas.List.{append_assoc}
use Rattle.partition_graph.specs.declared.cells.Cell.{Cell}
use Rattle.partition_graph.specs.Cells.{cells_of, inner_cell}
use Rattle.partition_graph.proofs.WordCells.{cells_of-last}
use Rattle.partition_graph.proofs.cells.push_cells.Goals as goal

pub returns : goal.returns
returns c =
    let old : List Cell = c.args.cells.now.items in
    let front : List ℕ = c.in-Some.front.now in
    let last : ℕ = c.in-Some.last.now in
    let cell : Cell = record { typ = last; last = true; id = last } in
    c.in_ok-push.ensures.items
    ∙ ap (λ (x : Cell). c.push_inner.new.cells.items ++ x ∷ []) c.of_type.ensures
    ∙ ap (λ (cs : List Cell). cs ++ cell ∷ []) c.in_ok-push_inner.ensures
    ∙ append_assoc old (map inner_cell front) (cell ∷ [])
    ∙ ap (λ (cs : List Cell). old ++ cs) (sym (cells_of-last front last))
    ∙ ap (λ (ns : List ℕ). old ++ cells_of ns) (sym c.in-Some.ensures.cases.0)
