use Rattle.std.proofs.Common.{◌≡◌, ◌<◌, [], List, get_or, length, arith, sym, ◌∙◌}
use Rattle.std.proofs.lemmas.List.{length-map, get_or-map}
use Rattle.partition_graph.specs.declared.cells.Cell.{Cell}
use Rattle.partition_graph.specs.Shared.{joined_traces, picked, trace_cells, Begin}
use Rattle.partition_graph.proofs.Copied.{copying-few, one_more_copied}
use Rattle.partition_graph.proofs.Begun.{nothing_copied, all_are_copied}
use Rattle.partition_graph.proofs.cells.copy_traces.Goals.{After-loop-number}
use Rattle.partition_graph.proofs.cells.copy_traces.Goals as goal

pub overflow_cast-len : goal.overflow_cast-len
overflow_cast-len c =
    let P : List (List Cell) = picked c.args.numbers.now (trace_cells c.args.cells.now) in
    let long : length P ≡ length c.args.numbers.now = length-map c.args.numbers.now (λ k. get_or (trace_cells c.args.cells.now) k []) in
    let inside : c.loop-number.number-index < length P = omega (arith, c.loop-number-test.true) in
    omega (arith, copying-few P c.loop-number.number-index c.loop-number.copies.items c.loop-number.begins.items inside c.loop-number.invariant, c.requires.few, c.len.ensures)

pub loop-number-preserved : goal.loop-number-preserved
loop-number-preserved c =
    let P : List (List Cell) = picked c.args.numbers.now (trace_cells c.args.cells.now) in
    let long : length P ≡ length c.args.numbers.now = length-map c.args.numbers.now (λ k. get_or (trace_cells c.args.cells.now) k []) in
    let inside : c.loop-number.number-index < length P = omega (arith, c.loop-number-test.true) in
    let n : c.len.result ≡ length c.loop-number.copies.items = omega (arith, c.len.ensures) in
    let at : c.trace_at.result.now ≡ get_or P c.loop-number.number-index [] =
    c.trace_at.ensures ∙ sym (get_or-map (λ k. get_or (trace_cells c.args.cells.now) k []) c.args.numbers.now c.loop-number.number-index 0 [] c.loop-number-test.true) in
    rw (c.in_ok-extend_from_slice.ensures.items, c.in_ok-push.ensures.items, n)
    (one_more_copied P c.loop-number.number-index c.loop-number.copies.items c.loop-number.begins.items c.trace_at.result.now inside at c.loop-number.invariant)

pub loop-number-init : goal.loop-number-init
loop-number-init c = nothing_copied _ c.new-copies.result.items c.in_ok-begins.begins.items c.new-copies.ensures.items c.in_ok-begins.ensures.items

pub trace_at-requires-clause-begin : goal.trace_at-requires-clause-begin
trace_at-requires-clause-begin c = c.requires.begin

pub trace_at-requires-clause-within : goal.trace_at-requires-clause-within
trace_at-requires-clause-within c = c.requires.within c.loop-number.number-index _ c.loop-number-test.true

all-copied : (c : After-loop-number) → (c.loop-number.copies.items ≡ joined_traces (picked c.args.numbers.now (trace_cells c.args.cells.now))) × Begin c.loop-number.begins.items (picked c.args.numbers.now (trace_cells c.args.cells.now))
all-copied c =
    all_are_copied (picked c.args.numbers.now (trace_cells c.args.cells.now)) c.loop-number.number-index (length c.args.numbers.now) c.loop-number.copies.items c.loop-number.begins.items
    (length-map c.args.numbers.now (λ k. get_or (trace_cells c.args.cells.now) k [])) c.loop-number-test.false c.loop-number.auto.number-index-end c.loop-number.invariant

pub returns-clause-cells : goal.returns-clause-cells
returns-clause-cells c = (all-copied c).0

pub returns-clause-begin : goal.returns-clause-begin
returns-clause-begin c = (all-copied c).1
