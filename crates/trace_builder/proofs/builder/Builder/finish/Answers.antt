use Rattle.std.proofs.Common.{◌≡◌, ℕ, List, length, map, ap, sym, ◌∙◌, subst, arith}
use Rattle.traces.specs.Columns.{laid}
use Rattle.std.proofs.Math.Logic.{∥∥₁_map}
use Rattle.traces.specs.Kept.{IsKept}
use Rattle.traces.specs.Words.{Trace, Log, trace_in_order, in_order, event_count_of}
use Rattle.traces.proofs.Columned.{length-columned}
use Rattle.traces.proofs.ColumnsInTime.{columned-count}
use Rattle.traces.proofs.TracesInTime.{in_order-gathered, kept-in-order}
use Rattle.trace_builder.proofs.builder.Builder.finish.Goals as goal

pub lay_in_order-requires-clause-few : goal.lay_in_order-requires-clause-few
lay_in_order-requires-clause-few c =
    let keys = c.into_columns-keys.result.0 in
    let events = c.into_columns-keys.result.1 in
    omega (
      arith,
      columned-count keys events.places.items events.numbers.items events.times.items c.into_columns-keys.ensures.columns,
      ap event_count_of c.into_columns-keys.ensures.view,
      c.self.invariant.0.count,
      c.self.invariant.0.few_events,
    )

pub lay_in_order-requires-clause-traces : goal.lay_in_order-requires-clause-traces
lay_in_order-requires-clause-traces c =
    let keys = c.into_columns-keys.result.0 in
    let events = c.into_columns-keys.result.1 in
    omega (
      arith,
      length-columned keys events.places.items events.numbers.items events.times.items,
      ap length c.into_columns-keys.ensures.view,
      c.self.invariant.0.few_traces,
      c.self.invariant.0.few_events,
    )

pub of_parts-requires-clause-kept : goal.of_parts-requires-clause-kept
of_parts-requires-clause-kept c =
    let keys = c.into_columns-keys.result.0 in
    let events = c.into_columns-keys.result.1 in
    let done = c.in_ok-events.events in
    let order : laid keys done.starts.items done.numbers.items done.times.items ≡ map trace_in_order c.self.inside.traces =
    c.in_ok-events.ensures.order keys (omega (arith, c.len.ensures)) ∙ ap (map trace_in_order) c.into_columns-keys.ensures.view in
    let same : c.self.inside.types ≡ c.from_vec-types.result = sym (c.from_vec-types.ensures ∙ c.into_texts.ensures.texts) in
    subst (λ n. IsKept n (laid keys done.starts.items done.numbers.items done.times.items) c.self.inside.event_count) (ap length same)
    (subst (λ (ts : List Trace). IsKept (length c.self.inside.types) ts c.self.inside.event_count) (sym order)
    (kept-in-order (length c.self.inside.types) c.self.inside.traces c.self.inside.event_count c.self.invariant.0))

pub of_parts-requires-clause-log : goal.of_parts-requires-clause-log
of_parts-requires-clause-log c =
    let keys = c.into_columns-keys.result.0 in
    let events = c.into_columns-keys.result.1 in
    let done = c.in_ok-events.events in
    let order : laid keys done.starts.items done.numbers.items done.times.items ≡ map trace_in_order c.self.inside.traces =
    c.in_ok-events.ensures.order keys (omega (arith, c.len.ensures)) ∙ ap (map trace_in_order) c.into_columns-keys.ensures.view in
    let same : c.self.inside.types ≡ c.from_vec-types.result = sym (c.from_vec-types.ensures ∙ c.into_texts.ensures.texts) in
    let shown : List (List ℕ) → List Trace → Log = λ types traces. record { types = types; traces = traces } in
    ∥∥₁_map c.self.invariant.3 (λ known. (
      known.0,
      ap (λ types. shown types (laid keys done.starts.items done.numbers.items done.times.items)) (sym same)
          ∙ (ap (shown c.self.inside.types) order ∙ (ap in_order known.1 ∙ in_order-gathered known.0)),
    ))

pub returns : goal.returns
returns c =
    let keys = c.into_columns-keys.result.0 in
    let events = c.into_columns-keys.result.1 in
    let done = c.in_ok-events.events in
    let shown : List (List ℕ) → List Trace → Log = λ types traces. record { types = types; traces = traces } in
    let order : laid keys done.starts.items done.numbers.items done.times.items ≡ map trace_in_order c.self.inside.traces =
    c.in_ok-events.ensures.order keys (omega (arith, c.len.ensures)) ∙ ap (map trace_in_order) c.into_columns-keys.ensures.view in
    c.of_parts.ensures
    ∙ (ap (λ types. shown types (laid keys done.starts.items done.numbers.items done.times.items)) (c.from_vec-types.ensures ∙ c.into_texts.ensures.texts)
    ∙ (ap (shown c.self.inside.types) order ∙ ap in_order c.self.view_is))
