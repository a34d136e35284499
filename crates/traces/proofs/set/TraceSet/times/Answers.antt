use Rattle.std.proofs.Common.{◌≡◌, ℕ, ◌<◌, length, ap, ◌∙◌, arith}
use Rattle.traces.specs.Words.{Trace}
use Rattle.traces.proofs.ShownTraces.{count-shown, shown, part-is, front-is, zeros-serve, times-serve, times-each, no-key}
use Rattle.traces.proofs.Zeros.{none-kept, some-kept}
use Rattle.traces.proofs.set.TraceSet.times.Goals as goal

pub bounds-from-requires : goal.bounds-from-requires
bounds-from-requires c =
    let s = c.self.inside in
    omega (arith, c.requires, count-shown c.args.self.now s.types s.keys s.events.starts.items s.events.numbers.items s.events.times.items c.self.view_is, c.self.invariant.1.count)

pub overflow_sub-to : goal.overflow_sub-to
overflow_sub-to c =
    let s = c.self.inside in
    let inside : c.args.t < length s.keys =
    omega (arith, c.requires, count-shown c.args.self.now s.types s.keys s.events.starts.items s.events.numbers.items s.events.times.items c.self.view_is) in
    omega (arith, c.self.invariant.1.rise c.args.t inside, ap (λ (p : ℕ × ℕ). p.0) c.bounds-from.ensures, ap (λ (p : ℕ × ℕ). p.1) c.bounds-from.ensures)

pub part-requires-else-is_empty-clause-rise : goal.part-requires-else-is_empty-clause-rise
part-requires-else-is_empty-clause-rise c =
    let s = c.self.inside in
    let inside : c.args.t < length s.keys =
    omega (arith, c.requires, count-shown c.args.self.now s.types s.keys s.events.starts.items s.events.numbers.items s.events.times.items c.self.view_is) in
    omega (arith, c.self.invariant.1.rise c.args.t inside, ap (λ (p : ℕ × ℕ). p.0) c.bounds-from.ensures, ap (λ (p : ℕ × ℕ). p.1) c.bounds-from.ensures)

pub returns-then-is_empty-clause-times : goal.returns-then-is_empty-clause-times
returns-then-is_empty-clause-times c =
    let s = c.self.inside in
    let inside : c.args.t < length s.keys =
    omega (arith, c.requires, count-shown c.args.self.now s.types s.keys s.events.starts.items s.events.numbers.items s.events.times.items c.self.view_is) in
    shown (λ (trace : Trace). c.part.result.now ≡ trace.times) c.args.self.now s.types s.keys s.events.starts.items s.events.numbers.items s.events.times.items c.args.t no-key c.self.view_is c.requires
    (front-is s.events.starts.items s.zeros.items c.args.t c.bounds-from.result c.deref.result.now c.part.result.now c.bounds-from.ensures c.deref.ensures.value c.part.ensures
    ∙ zeros-serve s.zeros.items s.events.starts.items s.events.numbers.items s.events.times.items (length s.keys) c.args.t c.self.invariant.1 c.self.invariant.3
    (none-kept s.events.times.items _ c.if-is_empty.ensures (omega arith)) inside)

pub returns-then-is_empty-clause-each : goal.returns-then-is_empty-clause-each
returns-then-is_empty-clause-each c =
    let s = c.self.inside in
    let inside : c.args.t < length s.keys =
    omega (arith, c.requires, count-shown c.args.self.now s.types s.keys s.events.starts.items s.events.numbers.items s.events.times.items c.self.view_is) in
    shown (λ (trace : Trace). length c.part.result.now ≡ length trace.events) c.args.self.now s.types s.keys s.events.starts.items s.events.numbers.items s.events.times.items c.args.t no-key c.self.view_is c.requires
    (ap length (front-is s.events.starts.items s.zeros.items c.args.t c.bounds-from.result c.deref.result.now c.part.result.now c.bounds-from.ensures c.deref.ensures.value c.part.ensures
    ∙ zeros-serve s.zeros.items s.events.starts.items s.events.numbers.items s.events.times.items (length s.keys) c.args.t c.self.invariant.1 c.self.invariant.3
    (none-kept s.events.times.items _ c.if-is_empty.ensures (omega arith)) inside)
    ∙ times-each s.events.starts.items s.events.numbers.items s.events.times.items (length s.keys) c.args.t c.self.invariant.1 c.self.invariant.2 inside)

pub returns-else-is_empty-clause-times : goal.returns-else-is_empty-clause-times
returns-else-is_empty-clause-times c =
    let s = c.self.inside in
    shown (λ (trace : Trace). c.part-else-is_empty.result.now ≡ trace.times) c.args.self.now s.types s.keys s.events.starts.items s.events.numbers.items s.events.times.items c.args.t no-key c.self.view_is c.requires
    (part-is s.events.starts.items s.events.times.items c.args.t c.bounds-from.result c.deref-else-is_empty.result.now c.part-else-is_empty.result.now c.bounds-from.ensures c.deref-else-is_empty.ensures.value c.part-else-is_empty.ensures
    ∙ times-serve s.events.starts.items s.events.numbers.items s.events.times.items c.args.t (some-kept s.events.times.items _ c.if-is_empty.ensures (omega arith)))

pub returns-else-is_empty-clause-each : goal.returns-else-is_empty-clause-each
returns-else-is_empty-clause-each c =
    let s = c.self.inside in
    let inside : c.args.t < length s.keys =
    omega (arith, c.requires, count-shown c.args.self.now s.types s.keys s.events.starts.items s.events.numbers.items s.events.times.items c.self.view_is) in
    shown (λ (trace : Trace). length c.part-else-is_empty.result.now ≡ length trace.events) c.args.self.now s.types s.keys s.events.starts.items s.events.numbers.items s.events.times.items c.args.t no-key c.self.view_is c.requires
    (ap length (part-is s.events.starts.items s.events.times.items c.args.t c.bounds-from.result c.deref-else-is_empty.result.now c.part-else-is_empty.result.now c.bounds-from.ensures c.deref-else-is_empty.ensures.value c.part-else-is_empty.ensures
    ∙ times-serve s.events.starts.items s.events.numbers.items s.events.times.items c.args.t (some-kept s.events.times.items _ c.if-is_empty.ensures (omega arith)))
    ∙ times-each s.events.starts.items s.events.numbers.items s.events.times.items (length s.keys) c.args.t c.self.invariant.1 c.self.invariant.2 inside)
