use Rattle.std.proofs.Common.{◌≡◌, ◌∙◌, ◌<◌, ◌≤◌, ℕ, List, ap, get_or, subst, sym, take, true}
use Rattle.std.proofs.lemmas.List.{take_more}
use Rattle.events.specs.declared.located.Located.{Located}
use Rattle.events_cli.specs.declared.ending.PlainFault.TheVariants.{Time}
use Rattle.events_cli.specs.Plain.{is_plain_type}
use Rattle.events_cli.specs.Texts.{type_text}
use Rattle.events_cli.proofs.Latest.{calm-fault, faults-hit, faults-more, late-fault, latest-put, latest_in}
use Rattle.events_cli.proofs.Texts.{zero-event}
use Rattle.events_cli.proofs.plain.first_fault.Goals as goal

pub returns-then-event-latest_of : goal.returns-then-event-latest_of
returns-then-event-latest_of c =
    let types = c.args.traces.now.types in
    let events = c.args.events.now in
    let i = c.loop-event.event-index in
    let e : Located = get_or events i zero-event in
    let plain : is_plain_type (type_text types e.number) ≡ true =
    ap is_plain_type (sym (c.as_bytes.ensures.value ∙ c.type_text.ensures)) ∙ (sym c.is_plain_type.ensures ∙ c.if-not-is_plain_type.false) in
    let noted : c.latest_of.result ≡ latest_in e.trace (take i events) =
    c.latest_of.ensures ∙ (ap (λ (xs : List ℕ). get_or xs e.trace 0) c.deref.ensures.value ∙ c.loop-event.invariant.latest e.trace) in
    let late : e.time < latest_in e.trace (take i events) = subst (λ (n : ℕ). e.time < n) noted c.if-event-latest_of.true in
    sym (c.loop-event.invariant.faults ∙ faults-hit types events i zero-event (Time e.at) c.loop-event-test.true (late-fault types (take i events) e plain late))

pub loop-event-preserved : goal.loop-event-preserved
loop-event-preserved c =
    let types = c.args.traces.now.types in
    let events = c.args.events.now in
    let i = c.loop-event.event-index in
    let e : Located = get_or events i zero-event in
    let plain : is_plain_type (type_text types e.number) ≡ true =
    ap is_plain_type (sym (c.as_bytes.ensures.value ∙ c.type_text.ensures)) ∙ (sym c.is_plain_type.ensures ∙ c.if-not-is_plain_type.false) in
    let noted : c.latest_of.result ≡ latest_in e.trace (take i events) =
    c.latest_of.ensures ∙ (ap (λ (xs : List ℕ). get_or xs e.trace 0) c.deref.ensures.value ∙ c.loop-event.invariant.latest e.trace) in
    let low : latest_in e.trace (take i events) ≤ e.time = subst (λ (n : ℕ). n ≤ e.time) noted c.if-event-latest_of.false in
    record {
      faults = c.loop-event.invariant.faults ∙ faults-more types events i zero-event c.loop-event-test.true (calm-fault types (take i events) e plain low);
      latest = λ k.
          subst (λ (front : List Located). get_or c.put_latest.new.latest.items k 0 ≡ latest_in k front) (sym (take_more events i zero-event c.loop-event-test.true))
          (latest-put k (take i events) e (get_or c.put_latest.new.latest.items k 0) (get_or c.loop-event.latest.items k 0) (c.loop-event.invariant.latest k) low (c.in_ok-put_latest.ensures k));
    }
