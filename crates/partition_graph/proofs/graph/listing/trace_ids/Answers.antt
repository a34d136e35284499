use Rattle.std.proofs.Common.{◌≡◌, ◌<◌, [], List, get_or, length, arith, sym, ◌∙◌}
use Rattle.std.proofs.lemmas.List.{length-map, get_or-map}
use Rattle.partition_graph.specs.declared.cells.Cell.{Cell}
use Rattle.partition_graph.specs.Shared.{picked, trace_cells}
use Rattle.partition_graph.proofs.Copied.{one_more_named}
use Rattle.partition_graph.proofs.graph.listing.trace_ids.Goals as goal

pub cell_count-requires-clause-begin : goal.cell_count-requires-clause-begin
cell_count-requires-clause-begin c = c.requires.begin

pub cell_count-requires-clause-within : goal.cell_count-requires-clause-within
cell_count-requires-clause-within c = c.requires.within

pub trace_at-requires-clause-begin : goal.trace_at-requires-clause-begin
trace_at-requires-clause-begin c = c.requires.begin

pub trace_at-requires-clause-within : goal.trace_at-requires-clause-within
trace_at-requires-clause-within c = c.requires.within c.loop-number.number-index _ c.loop-number-test.true

pub loop-number-preserved : goal.loop-number-preserved
loop-number-preserved c =
    let P : List (List Cell) = picked c.args.numbers.now (trace_cells c.args.cells.now) in
    let long : length P ≡ length c.args.numbers.now = length-map c.args.numbers.now (λ k. get_or (trace_cells c.args.cells.now) k []) in
    let inside : c.loop-number.number-index < length P = omega (arith, c.loop-number-test.true) in
    let at : c.trace_at.result.now ≡ get_or P c.loop-number.number-index [] =
    c.trace_at.ensures ∙ sym (get_or-map (λ k. get_or (trace_cells c.args.cells.now) k []) c.args.numbers.now c.loop-number.number-index 0 [] c.loop-number-test.true) in
    c.in_ok-push_ids.ensures ∙ one_more_named P c.loop-number.number-index c.loop-number.ids.items c.trace_at.result.now inside at c.loop-number.invariant
