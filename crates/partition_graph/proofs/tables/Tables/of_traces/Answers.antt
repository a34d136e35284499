use Rattle.std.proofs.Common.{ℕ, List, subst}
use Rattle.std.proofs.lemmas.List.{take_all}
use Rattle.partition_graph.specs.Shared.{joined_traces, picked, trace_cells}
use Rattle.partition_graph.specs.Tables.{IsCountOf}
use Rattle.partition_graph.proofs.CountedTraces.{none_counted, one_more_counted, room_for_trace, trace_ids}
use Rattle.partition_graph.proofs.tables.Tables.of_traces.Goals as goal

pub trace_at-requires-clause-begin : goal.trace_at-requires-clause-begin
trace_at-requires-clause-begin c = c.requires.begin

pub trace_at-requires-clause-within : goal.trace_at-requires-clause-within
trace_at-requires-clause-within c = c.requires.within c.loop-number.number-index _ c.loop-number-test.true

pub loop-number-init : goal.loop-number-init
loop-number-init c = none_counted c.in_ok-tables.tables c.in_ok-tables.ensures

pub count-requires-clause-ids : goal.count-requires-clause-ids
count-requires-clause-ids c = trace_ids c.args.cells.now c.args.numbers.now c.loop-number.number-index c.trace_at.result.now c.loop-number-test.true c.trace_at.ensures c.requires.ids c.requires.within

pub count-requires-clause-room : goal.count-requires-clause-room
count-requires-clause-room c =
    room_for_trace c.loop-number.tables c.args.cells.now c.args.numbers.now c.loop-number.number-index c.trace_at.result.now c.loop-number-test.true c.trace_at.ensures c.requires.ids c.requires.closed c.requires.within
    c.requires.few c.loop-number.invariant

pub loop-number-preserved : goal.loop-number-preserved
loop-number-preserved c =
    one_more_counted c.loop-number.tables c.count.new.self c.args.cells.now c.args.numbers.now c.loop-number.number-index c.trace_at.result.now c.loop-number-test.true c.trace_at.ensures c.requires.closed c.requires.within
    c.loop-number.invariant c.count.ensures

pub returns : goal.returns
returns c =
    subst (λ (ns : List ℕ). IsCountOf c.loop-number.tables (joined_traces (picked ns (trace_cells c.args.cells.now)))) (take_all c.loop-number.number-index c.args.numbers.now c.loop-number-test.false)
    c.loop-number.invariant
