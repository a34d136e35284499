use Rattle.std.proofs.Common.{◌≡◌, ℕ, ◌<◌, List, length, ap, sym, subst, arith}
use Rattle.std.specs.List.{All}
use Rattle.traces.specs.Columns.{part_at}
use Rattle.traces.specs.Kept.{IsTypeNumber}
use Rattle.traces.specs.Words.{Trace, Log}
use Rattle.traces.proofs.ShownTraces.{count-shown, shown, part-numbered, part-begun, part-is, no-key}
use Rattle.traces.proofs.set.TraceSet.events.Goals as goal

pub bounds-from-requires : goal.bounds-from-requires
bounds-from-requires c =
    let s = c.self.inside in
    omega (arith, c.requires, count-shown c.args.self.now s.types s.keys s.events.starts.items s.events.numbers.items s.events.times.items c.self.view_is, c.self.invariant.1.count)

pub part-requires-clause-rise : goal.part-requires-clause-rise
part-requires-clause-rise c =
    let s = c.self.inside in
    let inside : c.args.t < length s.keys =
    omega (arith, c.requires, count-shown c.args.self.now s.types s.keys s.events.starts.items s.events.numbers.items s.events.times.items c.self.view_is) in
    omega (arith, c.self.invariant.1.rise c.args.t inside, ap (λ (p : ℕ × ℕ). p.0) c.bounds-from.ensures, ap (λ (p : ℕ × ℕ). p.1) c.bounds-from.ensures)

pub returns-clause-events : goal.returns-clause-events
returns-clause-events c =
    let s = c.self.inside in
    shown (λ (trace : Trace). c.part.result.now ≡ trace.events) c.args.self.now s.types s.keys s.events.starts.items s.events.numbers.items s.events.times.items c.args.t no-key c.self.view_is c.requires
    (part-is s.events.starts.items s.events.numbers.items c.args.t c.bounds-from.result c.deref.result.now c.part.result.now c.bounds-from.ensures c.deref.ensures.value c.part.ensures)

pub returns-clause-numbers : goal.returns-clause-numbers
returns-clause-numbers c =
    let s = c.self.inside in
    let inside : c.args.t < length s.keys =
    omega (arith, c.requires, count-shown c.args.self.now s.types s.keys s.events.starts.items s.events.numbers.items s.events.times.items c.self.view_is) in
    let types = ap (λ (log : Log). length log.types) c.self.view_is in
    subst (λ (xs : List ℕ). All (IsTypeNumber (length c.args.self.now.types)) xs)
    (sym (part-is s.events.starts.items s.events.numbers.items c.args.t c.bounds-from.result c.deref.result.now c.part.result.now c.bounds-from.ensures c.deref.ensures.value c.part.ensures))
    (subst (λ n. All (IsTypeNumber n) (part_at s.events.starts.items c.args.t s.events.numbers.items)) types
    (part-numbered (length s.types) s.event_count s.keys s.events.starts.items s.events.numbers.items s.events.times.items c.args.t no-key c.self.invariant.0 inside))

pub returns-clause-some : goal.returns-clause-some
returns-clause-some c =
    let s = c.self.inside in
    let inside : c.args.t < length s.keys =
    omega (arith, c.requires, count-shown c.args.self.now s.types s.keys s.events.starts.items s.events.numbers.items s.events.times.items c.self.view_is) in
    subst (λ (xs : List ℕ). 0 < length xs)
    (sym (part-is s.events.starts.items s.events.numbers.items c.args.t c.bounds-from.result c.deref.result.now c.part.result.now c.bounds-from.ensures c.deref.ensures.value c.part.ensures))
    (part-begun (length s.types) s.event_count s.keys s.events.starts.items s.events.numbers.items s.events.times.items c.args.t no-key c.self.invariant.0 inside)
