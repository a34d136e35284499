use Rattle.std.proofs.Common.{arith}
use Rattle.traces.proofs.ShownTraces.{length-laid, count-shown}
use Rattle.traces.proofs.set.TraceSet.trace_count.Goals as goal

pub overflow_cast-result : goal.overflow_cast-result
overflow_cast-result c =
    let s = c.self.inside in
    omega (arith, length-laid s.keys s.events.starts.items s.events.numbers.items s.events.times.items, c.self.invariant.0.few_traces, c.self.invariant.0.few_events)

pub returns-clause-value : goal.returns-clause-value
returns-clause-value c =
    let s = c.self.inside in
    omega (arith, count-shown c.args.self.now s.types s.keys s.events.starts.items s.events.numbers.items s.events.times.items c.self.view_is)

pub returns-clause-few : goal.returns-clause-few
returns-clause-few c =
    let s = c.self.inside in
    omega (arith, length-laid s.keys s.events.starts.items s.events.numbers.items s.events.times.items, c.self.invariant.0.few_traces, c.self.invariant.0.few_events)
