use Rattle.std.proofs.Common.{◌≡◌, ◌+◌, ◌<◌, ◌≤◌, ◌++◌, ◌∷◌, ℕ, List, [], length, arith, sym, ◌∙◌, ap, subst}
use Rattle.std.proofs.Math.Logic.{∥∥₁_map}
use Rattle.std.specs.Str.{bytes_eq}
use Rattle.std.specs.List.{position_or_len}
use Rattle.limits.specs.declared.TheConstants.{MAX_TYPES, FIRST_TYPE}
use Rattle.traces.specs.Words.{Event, Gathering, Trace, IsGathered, event_of, event_count_of, with_event, gathered_with, AddsEvent}
use Rattle.traces.proofs.Grown.{types-few, types-longer, place-in-types, traces-few, count-with_event, adds-one, adds-event}
use Rattle.traces.specs.Kept.{AreNumbered, AreShort, HaveBytes, HaveTimes, HaveEvents, IsKept}
use Rattle.traces.proofs.Numbered.{numbered-with_event, timed-with_event, begun-with_event, have-bytes, are-short}
use Rattle.trace_builder.proofs.builder.Builder.add.Goals as goal

pub invariant_of-self : goal.invariant_of-self
invariant_of-self c =
    let typ = c.args.type_text.now in
    let event : Event = event_of c.args.file c.args.section c.args.text.now typ c.args.time in
    let position : c.in_ok-place.place ≡ position_or_len (bytes_eq typ) c.self.inside.types = c.in_ok-place.ensures.place in
    let put = c.in-Ok.ensures in
    let traces = c.self.inside.traces in
    let room : position_or_len (bytes_eq typ) c.self.inside.types < MAX_TYPES = omega (arith, c.in_ok-place.ensures.room.0) in (
      record {
        few_types = subst (λ ts. length ts ≤ MAX_TYPES) (sym put.types) (types-few c.self.inside.types typ room c.self.invariant.0.few_types);
        few_traces = omega (arith, ap length put.traces, traces-few traces event.key (c.in_ok-place.place + FIRST_TYPE) event.time, c.self.invariant.0.few_traces);
        few_events = omega (arith, c.in_ok-place.ensures.room.1);
        numbered = subst (AreNumbered (length c.put_typed_event.new.types)) (sym put.traces)
            (numbered-with_event (length c.self.inside.types) (length c.put_typed_event.new.types) (c.in_ok-place.place + FIRST_TYPE) event.time traces event.key
            (omega (arith, ap length put.types, types-longer c.self.inside.types typ))
            (omega arith, omega (arith, ap length put.types, position, place-in-types c.self.inside.types typ)) c.self.invariant.0.numbered);
        timed = subst HaveTimes (sym put.traces) (timed-with_event (c.in_ok-place.place + FIRST_TYPE) event.time traces event.key c.self.invariant.0.timed);
        begun = subst HaveEvents (sym put.traces) (begun-with_event (c.in_ok-place.place + FIRST_TYPE) event.time traces event.key c.self.invariant.0.begun);
        count = sym (ap event_count_of put.traces ∙ (count-with_event traces event.key (c.in_ok-place.place + FIRST_TYPE) event.time ∙ ap (λ n. n + 1) (sym c.self.invariant.0.count)));
      },
      subst HaveBytes (sym put.types) (have-bytes c.self.inside.types typ c.self.invariant.1 c.requires.type_text_stands),
      subst AreShort (sym put.types) (are-short c.self.inside.types typ c.self.invariant.2 c.requires.type_text),
      ∥∥₁_map c.self.invariant.3 (λ known. (
        known.0 ++ event ∷ [],
        adds-event (record { types = c.self.inside.types; traces = traces }) (record { types = c.put_typed_event.new.types; traces = c.put_typed_event.new.traces }) event
            (adds-one (record { types = c.self.inside.types; traces = traces }) (record { types = c.put_typed_event.new.types; traces = c.put_typed_event.new.traces }) event put.types
            (put.traces ∙ ap (λ n. with_event traces event.key (n + FIRST_TYPE) event.time) position)) known.0 known.1,
      )),
    )

pub invariant_of-self-in-Err : goal.invariant_of-self-in-Err
invariant_of-self-in-Err c =
    let kept = c.in-Err.ensures in
    subst (λ (ts : List (List ℕ)). IsKept (length ts) c.put_typed_event.new.traces c.self.inside.event_count × HaveBytes ts × AreShort ts × IsGathered (record { types = ts; traces = c.put_typed_event.new.traces })) (sym kept.err)
    (subst (λ (traces : List Trace). IsKept (length c.self.inside.types) traces c.self.inside.event_count × HaveBytes c.self.inside.types × AreShort c.self.inside.types × IsGathered (record { types = c.self.inside.types; traces = traces })) (sym kept.err_traces)
    c.self.invariant)

pub returns-in-Ok-clause-exact : goal.returns-in-Ok-clause-exact
returns-in-Ok-clause-exact c =
    let typ = c.args.type_text.now in
    let event : Event = event_of c.args.file c.args.section c.args.text.now typ c.args.time in
    let position : c.in_ok-place.place ≡ position_or_len (bytes_eq typ) c.self.inside.types = c.in_ok-place.ensures.place in
    let put = c.in-Ok.ensures in
    let traces = c.self.inside.traces in
    let old : Gathering = record { types = c.self.inside.types; traces = traces } in
    let new : Gathering = record { types = c.put_typed_event.new.types; traces = c.put_typed_event.new.traces } in
    adds-one old new event put.types (put.traces ∙ ap (λ n. with_event traces event.key (n + FIRST_TYPE) event.time) position) ∙ ap (λ gathering. gathered_with gathering event) c.self.view_is

pub returns-in-Ok-clause-ok : goal.returns-in-Ok-clause-ok
returns-in-Ok-clause-ok c =
    let typ = c.args.type_text.now in
    let event : Event = event_of c.args.file c.args.section c.args.text.now typ c.args.time in
    let position : c.in_ok-place.place ≡ position_or_len (bytes_eq typ) c.self.inside.types = c.in_ok-place.ensures.place in
    let put = c.in-Ok.ensures in
    let traces = c.self.inside.traces in
    let old : Gathering = record { types = c.self.inside.types; traces = traces } in
    let new : Gathering = record { types = c.put_typed_event.new.types; traces = c.put_typed_event.new.traces } in
    let one : new ≡ gathered_with old event = adds-one old new event put.types (put.traces ∙ ap (λ n. with_event traces event.key (n + FIRST_TYPE) event.time) position) in
    subst (λ gathering. AddsEvent gathering new event) c.self.view_is (adds-event old new event one)

pub returns-in-Ok-clause-limits : goal.returns-in-Ok-clause-limits
returns-in-Ok-clause-limits c =
    let typ = c.args.type_text.now in
    let event : Event = event_of c.args.file c.args.section c.args.text.now typ c.args.time in
    let position : c.in_ok-place.place ≡ position_or_len (bytes_eq typ) c.self.inside.types = c.in_ok-place.ensures.place in
    let put = c.in-Ok.ensures in
    let traces = c.self.inside.traces in
    let room : position_or_len (bytes_eq typ) c.self.inside.types < MAX_TYPES = omega (arith, c.in_ok-place.ensures.room.0) in (
      subst (λ ts. length ts ≤ MAX_TYPES) (sym put.types) (types-few c.self.inside.types typ room c.self.invariant.0.few_types),
      omega (arith, ap event_count_of put.traces, count-with_event traces event.key (c.in_ok-place.place + FIRST_TYPE) event.time, c.self.invariant.0.count, c.in_ok-place.ensures.room.1),
    )
