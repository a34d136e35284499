use Rattle.partition_graph.proofs.graph.listing.cell_count.Goals as goal

pub trace_at-requires-clause-begin : goal.trace_at-requires-clause-begin
trace_at-requires-clause-begin c = c.requires.begin

pub trace_at-requires-clause-within : goal.trace_at-requires-clause-within
trace_at-requires-clause-within c = c.requires.within c.loop-number.number-index _ c.loop-number-test.true
