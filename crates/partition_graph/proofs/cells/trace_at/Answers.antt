use Rattle.std.proofs.Common.{◌≡◌, ◌+◌, get_or, length, [], arith, ◌∙◌}
use Rattle.partition_graph.specs.Shared.{trace_cells}
use Rattle.partition_graph.proofs.Copied.{trace_stands, last_ends, next_ends}
use Rattle.partition_graph.proofs.cells.trace_at.Goals as goal

pub part-requires-clause-rise : goal.part-requires-clause-rise
part-requires-clause-rise c =
    let s = trace_stands c.args.cells.now c.args.firsts.now c.args.t c.requires.begin c.requires.within in
    omega (arith, s.0)

pub returns-then-t-firsts : goal.returns-then-t-firsts
returns-then-t-firsts c =
    let s = trace_stands c.args.cells.now c.args.firsts.now c.args.t c.requires.begin c.requires.within in
    c.part.ensures ∙ s.1 (length c.args.cells.now) (last_ends c.args.cells.now c.args.firsts.now c.args.t c.requires.begin c.requires.within c.if-t-firsts.true)

pub part-requires-2-clause-rise : goal.part-requires-2-clause-rise
part-requires-2-clause-rise c =
    let e : get_or c.args.firsts.now (c.args.t + 1) 0 ≡ get_or c.args.firsts.now c.args.t 0 + length (get_or (trace_cells c.args.cells.now) c.args.t []) =
    next_ends c.args.cells.now c.args.firsts.now c.args.t c.requires.begin c.requires.within c.if-t-firsts.false in
    omega (arith, e)

pub part-requires-2-clause-within : goal.part-requires-2-clause-within
part-requires-2-clause-within c =
    let s = trace_stands c.args.cells.now c.args.firsts.now c.args.t c.requires.begin c.requires.within in
    let e = next_ends c.args.cells.now c.args.firsts.now c.args.t c.requires.begin c.requires.within c.if-t-firsts.false in
    omega (arith, e, s.0)

pub returns : goal.returns
returns c =
    let s = trace_stands c.args.cells.now c.args.firsts.now c.args.t c.requires.begin c.requires.within in
    c.part-2.ensures ∙ s.1 (get_or c.args.firsts.now (c.args.t + 1) 0) (next_ends c.args.cells.now c.args.firsts.now c.args.t c.requires.begin c.requires.within c.if-t-firsts.false)
