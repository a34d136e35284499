use Rattle.std.proofs.Common.{◌∙◌, List, length, refl, ap, arith}
use Rattle.traces.specs.Words.{Trace, same_key, with_event}
use Rattle.trace_keys.specs.Keys.{Key}
use Rattle.traces.proofs.Columned.{columned-grows, columned-same, columns-kept, columns-same, length-columned}
use Rattle.trace_keys.proofs.Positions.{position-le}
use Rattle.trace_builder.specs.Placed.{key_packed}
use Rattle.trace_builder.proofs.Places.{place-told}
use Rattle.trace_builder.proofs.trace_table.TraceTable.put_anywhere.Goals as goal

pub overflow_cast-trace : goal.overflow_cast-trace
overflow_cast-trace c =
    let key : Key = key_packed c.args.key in
    let events = c.self.inside.events in
    omega (
      arith,
      c.in_ok-place.ensures.place,
      position-le (same_key key) c.self.inside.keys,
      length-columned c.self.inside.keys events.places.items events.numbers.items events.times.items,
      ap length c.self.view_is,
      c.requires.few,
    )

pub invariant_of-self-2 : goal.invariant_of-self-2
invariant_of-self-2 c =
    let key : Key = key_packed c.args.key in
    let old = c.self.inside.events in
    let ready = c.reserve.new.self in
    let new = c.put.new.self in
    columns-kept c.self.inside.keys c.place_or_put_packed.new.self key c.in_ok-place.place c.in_ok-place.place c.args.number c.args.time
    ready.places.items ready.numbers.items ready.times.items new.places.items new.numbers.items new.times.items
    (columns-same (length c.self.inside.keys) (length c.self.inside.keys) old.places.items old.numbers.items old.times.items ready.places.items ready.numbers.items ready.times.items
    refl c.reserve.ensures.places c.reserve.ensures.numbers c.reserve.ensures.times c.self.invariant)
    c.in_ok-place.ensures.place refl c.in_ok-place.ensures.ok c.put.ensures.places c.put.ensures.numbers c.put.ensures.times

pub returns-clause-ok : goal.returns-clause-ok
returns-clause-ok c =
    let key : Key = key_packed c.args.key in
    let old = c.self.inside.events in
    let ready = c.reserve.new.self in
    let new = c.put.new.self in
    columned-grows c.self.inside.keys c.place_or_put_packed.new.self key c.in_ok-place.place c.in_ok-place.place c.args.number c.args.time
    ready.places.items ready.numbers.items ready.times.items new.places.items new.numbers.items new.times.items
    (columns-same (length c.self.inside.keys) (length c.self.inside.keys) old.places.items old.numbers.items old.times.items ready.places.items ready.numbers.items ready.times.items
    refl c.reserve.ensures.places c.reserve.ensures.numbers c.reserve.ensures.times c.self.invariant)
    c.in_ok-place.ensures.place refl c.in_ok-place.ensures.ok c.put.ensures.places c.put.ensures.numbers c.put.ensures.times
    ∙ (ap (λ (ts : List Trace). with_event ts key c.args.number c.args.time)
    (columned-same c.self.inside.keys c.self.inside.keys old.places.items old.numbers.items old.times.items ready.places.items ready.numbers.items ready.times.items
    refl c.reserve.ensures.places c.reserve.ensures.numbers c.reserve.ensures.times
    ∙ c.self.view_is))

pub place_or_put_packed-requires-clause-few : goal.place_or_put_packed-requires-clause-few
place_or_put_packed-requires-clause-few c =
    let events = c.self.inside.events in
    omega (
      arith,
      length-columned c.self.inside.keys events.places.items events.numbers.items events.times.items,
      ap length c.self.view_is,
      c.requires.few,
    )

pub returns-clause-place : goal.returns-clause-place
returns-clause-place c =
    let key : Key = key_packed c.args.key in
    let events = c.self.inside.events in
    place-told c.self.inside.keys events.places.items events.numbers.items events.times.items c.args.self.now key c.in_ok-place.place c.self.view_is c.in_ok-place.ensures.place
