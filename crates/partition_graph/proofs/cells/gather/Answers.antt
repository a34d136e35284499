use Rattle.std.proofs.Common.{◌≡◌, ◌+◌, ◌<◌, [], ℕ, List, length, get_or, arith, ap, subst}
use Rattle.std.proofs.lemmas.List.{length-map}
use Rattle.std.proofs.lemmas.List.Elements.{recursion_from_All}
use Rattle.traces.specs.Kept.{IsTypeNumber}
use Rattle.traces.specs.Words.{Trace}
use Rattle.partition_graph.specs.declared.cells.Cell.{Cell}
use Rattle.partition_graph.specs.Parts.{inner_words_of}
use Rattle.partition_graph.proofs.WordCells.{more_gathered, cells-le, word_at}
use Rattle.partition_graph.specs.Cells.{IsGatheredOf}
use Rattle.partition_graph.proofs.Begun.{nothing_gathered}
use Rattle.partition_graph.proofs.cells.gather.Goals as goal

pub overflow_cast-len : goal.overflow_cast-len
overflow_cast-len c =
    let e = ap (λ (cs : List Cell). length cs) c.loop-t.invariant.cells_are in
    omega (arith, e, cells-le c.args.traces.now.traces c.loop-t.t, c.event_count-event_count.ensures.value, c.event_count-event_count.type_inv, c.len.ensures)

pub returns-clause-few : goal.returns-clause-few
returns-clause-few c =
    let e = ap (λ (cs : List Cell). length cs) c.loop-t.invariant.cells_are in
    omega (arith, e, cells-le c.args.traces.now.traces c.loop-t.t, c.event_count-event_count.ensures.value, c.event_count-event_count.type_inv)

pub loop-t-preserved : goal.loop-t-preserved
loop-t-preserved c =
    let inside : c.loop-t.t < length c.args.traces.now.traces = omega (arith, c.loop-t-test.true, c.trace_count-t-end.ensures) in
    let words : length (inner_words_of c.args.traces.now) ≡ length c.args.traces.now.traces = length-map c.args.traces.now.traces (λ (trace : Trace). trace.events) in
    let within : c.loop-t.t < length (inner_words_of c.args.traces.now) = omega arith in
    let at : get_or (inner_words_of c.args.traces.now) c.loop-t.t [] ≡ c.events.result.now = word_at c.args.traces.now.traces c.loop-t.t c.events.result.now inside c.events.ensures.events in
    let numbers = recursion_from_All (IsTypeNumber (length c.args.traces.now.types)) c.events.result.now c.events.ensures.numbers in
    let n : c.len.result ≡ length c.loop-t.cells.items = omega (arith, c.len.ensures) in
    rw (c.in_ok-push_cells.ensures, c.in_ok-push.ensures.items, n)
    (more_gathered (length c.args.traces.now.types + 2) (inner_words_of c.args.traces.now) c.loop-t.t c.loop-t.cells.items c.loop-t.firsts.items c.events.result.now within at c.events.ensures.some numbers c.loop-t.invariant)

pub loop-t-init : goal.loop-t-init
loop-t-init c = nothing_gathered _ _ c.in_ok-cells.cells.items c.in_ok-firsts.firsts.items c.in_ok-cells.ensures.items c.in_ok-firsts.ensures.items

pub returns-clause-gathered : goal.returns-clause-gathered
returns-clause-gathered c =
    subst (λ (n : ℕ). IsGatheredOf c.args.traces.now n c.loop-t.cells.items c.loop-t.firsts.items) (omega (arith, c.loop-t-test.false, c.loop-t.auto.t-end, c.trace_count-t-end.ensures.value)) c.loop-t.invariant

pub events-requires : goal.events-requires
events-requires c = omega (arith, c.loop-t-test.true, c.trace_count-t-end.ensures.value)
