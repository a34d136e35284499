use Rattle.std.proofs.Common.{◌≡◌, ◌+◌, ◌++◌, ◌∷◌, ℕ, List, [], length, arith, sym, ◌∙◌, ap, subst}
use Rattle.std.proofs.Math.Logic.{∥∥₁_map}
use Rattle.std.specs.Str.{bytes_eq}
use Rattle.std.specs.List.{position_or_len}
use Rattle.limits.specs.declared.TheConstants.{FIRST_TYPE}
use Rattle.traces.specs.Words.{Event, Gathering, Trace, IsGathered, event_of, event_count_of, gathered_with, AddsEvent}
use Rattle.traces.proofs.Grown.{place-in-types, traces-few, count-with_event, adds-one, adds-event}
use Rattle.traces.specs.Kept.{AreNumbered, AreShort, HaveBytes, HaveTimes, HaveEvents, IsKept}
use Rattle.traces.proofs.Numbered.{numbered-with_event, timed-with_event, begun-with_event}
use Rattle.trace_builder.proofs.Places.{if-some}
use Rattle.trace_builder.proofs.builder.Builder.add_packed.Goals as goal

pub invariant_of-self-in-Some : goal.invariant_of-self-in-Some
invariant_of-self-in-Some c =
    let typ = c.args.type_text.now in
    let event : Event = event_of c.args.file c.args.section c.args.text.now typ c.args.time in
    let types = c.self.inside.types in
    let traces = c.self.inside.traces in
    let place : ℕ = position_or_len (bytes_eq typ) types in
    let known = if-some _ c.in_ok-put.put c.in-Some.placed (cc (c.in-Some.is)) c.in_ok-put.ensures.known in
    let put = if-some _ c.in_ok-put.put c.in-Some.placed (cc (c.in-Some.is)) c.in_ok-put.ensures.put in
    let old : Gathering = record { types = types; traces = traces } in
    let new : Gathering = record { types = types; traces = c.put_packed.new.traces } in (
      record {
        few_types = c.self.invariant.0.few_types;
        few_traces = omega (arith, ap length put, traces-few traces event.key (place + FIRST_TYPE) event.time, c.self.invariant.0.few_traces);
        few_events = omega (arith, c.if-self-lt-MAX_EVENTS.true);
        numbered = subst (AreNumbered (length types)) (sym put)
            (numbered-with_event (length types) (length types) (place + FIRST_TYPE) event.time traces event.key (omega arith)
            (omega arith, omega (arith, ap length known, place-in-types types typ)) c.self.invariant.0.numbered);
        timed = subst HaveTimes (sym put) (timed-with_event (place + FIRST_TYPE) event.time traces event.key c.self.invariant.0.timed);
        begun = subst HaveEvents (sym put) (begun-with_event (place + FIRST_TYPE) event.time traces event.key c.self.invariant.0.begun);
        count = sym (ap event_count_of put ∙ (count-with_event traces event.key (place + FIRST_TYPE) event.time ∙ ap (λ n. n + 1) (sym c.self.invariant.0.count)));
      },
      c.self.invariant.1,
      c.self.invariant.2,
      ∥∥₁_map c.self.invariant.3 (λ met. (
        met.0 ++ event ∷ [],
        adds-event old new event (adds-one old new event known put) met.0 met.1,
      )),
    )

pub invariant_of-self-in-None : goal.invariant_of-self-in-None
invariant_of-self-in-None c =
    let types = c.self.inside.types in
    subst (λ (traces : List Trace). IsKept (length types) traces c.self.inside.event_count × HaveBytes types × AreShort types × IsGathered (record { types = types; traces = traces })) (sym (c.in_ok-put.ensures.same (cc (c.in-None.is))))
    c.self.invariant

pub returns-in-Some-clause-ok : goal.returns-in-Some-clause-ok
returns-in-Some-clause-ok c =
    let event : Event = event_of c.args.file c.args.section c.args.text.now c.args.type_text.now c.args.time in
    let old : Gathering = record { types = c.self.inside.types; traces = c.self.inside.traces } in
    let new : Gathering = record { types = c.self.inside.types; traces = c.put_packed.new.traces } in
    let one : new ≡ gathered_with old event = adds-one old new event (if-some _ c.in_ok-put.put c.in-Some.placed (cc (c.in-Some.is)) c.in_ok-put.ensures.known) (if-some _ c.in_ok-put.put c.in-Some.placed (cc (c.in-Some.is)) c.in_ok-put.ensures.put) in
    subst (λ gathering. AddsEvent gathering new event) c.self.view_is (adds-event old new event one)

pub returns-in-Some-clause-limits : goal.returns-in-Some-clause-limits
returns-in-Some-clause-limits c =
    let event : Event = event_of c.args.file c.args.section c.args.text.now c.args.type_text.now c.args.time in
    let place : ℕ = position_or_len (bytes_eq c.args.type_text.now) c.self.inside.types in (
      c.self.invariant.0.few_types,
      omega (arith, ap event_count_of (if-some _ c.in_ok-put.put c.in-Some.placed (cc (c.in-Some.is)) c.in_ok-put.ensures.put), count-with_event c.self.inside.traces event.key (place + FIRST_TYPE) event.time, c.self.invariant.0.count, c.if-self-lt-MAX_EVENTS.true),
    )

pub invariant_of-self : goal.invariant_of-self
invariant_of-self c =
    let types = c.self.inside.types in
    subst (λ (traces : List Trace). IsKept (length types) traces c.self.inside.event_count × HaveBytes types × AreShort types × IsGathered (record { types = types; traces = traces })) (sym c.in_err-put.ensures.err)
    c.self.invariant
