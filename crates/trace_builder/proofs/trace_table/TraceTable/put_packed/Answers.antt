use Rattle.std.proofs.Common.{◌∙◌, refl, ap, List}
use Rattle.trace_keys.specs.Keys.{Key}
use Rattle.traces.specs.Words.{Trace, with_event}
use Rattle.traces.proofs.Columned.{columned-grows, columns-kept}
use Rattle.trace_builder.specs.Placed.{key_packed}
use Rattle.trace_builder.proofs.Places.{place-told}
use Rattle.trace_builder.proofs.trace_table.TraceTable.put_packed.Goals as goal

pub invariant_of-self : goal.invariant_of-self
invariant_of-self c =
    let key : Key = key_packed c.args.key in
    let old = c.self.inside.events in
    let new = c.put.new.self in
    columns-kept c.self.inside.keys c.self.inside.keys key c.in-Some.place c.in-Some.place c.args.number c.args.time
    old.places.items old.numbers.items old.times.items new.places.items new.numbers.items new.times.items
    c.self.invariant c.in-Some.ensures.place refl c.in-Some.ensures.known c.put.ensures.places c.put.ensures.numbers c.put.ensures.times

pub returns-in-Some-clause-ok : goal.returns-in-Some-clause-ok
returns-in-Some-clause-ok c =
    let key : Key = key_packed c.args.key in
    let old = c.self.inside.events in
    let new = c.put.new.self in
    columned-grows c.self.inside.keys c.self.inside.keys key c.in-Some.place c.in-Some.place c.args.number c.args.time
    old.places.items old.numbers.items old.times.items new.places.items new.numbers.items new.times.items
    c.self.invariant c.in-Some.ensures.place refl c.in-Some.ensures.known c.put.ensures.places c.put.ensures.numbers c.put.ensures.times
    ∙ ap (λ (ts : List Trace). with_event ts key c.args.number c.args.time) c.self.view_is

pub returns-in-Some-clause-place : goal.returns-in-Some-clause-place
returns-in-Some-clause-place c =
    let key : Key = key_packed c.args.key in
    let events = c.self.inside.events in
    place-told c.self.inside.keys events.places.items events.numbers.items events.times.items c.args.self.now key c.in-Some.place c.self.view_is c.in-Some.ensures.place
