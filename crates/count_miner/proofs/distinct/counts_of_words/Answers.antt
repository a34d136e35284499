use Rattle.std.proofs.Common.{◌≡◌, ◌+◌, ℕ, List, get_or, map, take_all, arith, refl, sym, ap, ◌∙◌, subst, cond, eqb}
use Rattle.std.proofs.lemmas.List.{length-map}
use Rattle.traces.specs.Words.{Trace}
use Rattle.count_miner.specs.declared.counts.Counts.{Counts}
use Rattle.count_miner.proofs.Lengths.{events_of, room-more}
use Rattle.count_miner.proofs.Places.{one-or-none}
use Rattle.count_miner.proofs.Once.{Once, once-broken, once-counted, once-end, once-passed}
use Rattle.count_miner.proofs.distinct.counts_of_words.Goals as goal
use Rattle.count_miner.proofs.distinct.counts_of_words.Goals.{then-number-next, else-number-next}

pub add_trace-requires-clause-room : goal.add_trace-requires-clause-room
add_trace-requires-clause-room c =
    let traces : List Trace = c.args.traces.now.traces in
    let o = c.loop-t.invariant.once in
    record {
      words = map events_of o.some;
      counted = o.counted;
      few = omega (arith, length-map o.some events_of, o.few);
      short = omega (arith, o.short, room-more traces c.loop-t.t c.events.result.now (omega arith) c.events.ensures.events, c.event_count-event_count.ensures.value, c.event_count-event_count.ensures.few);
    }

pub loop-t-preserved : goal.loop-t-preserved
loop-t-preserved c =
    let traces : List Trace = c.args.traces.now.traces in
    let numbers : List ℕ = c.args.numbers.now in
    let t : ℕ = c.loop-t.t in
    let next : ℕ = c.loop-t.next in
    let number : ℕ = get_or numbers t 0 in
    elim c.if-number-next.branch [
      | then-number-next w ↦ record {
        kinds = ap (λ (x : Counts). x.kinds) w.counts-is ∙ (w.add_trace.ensures.kinds ∙ c.loop-t.invariant.kinds);
        types = ap (λ (x : Counts). x.types) w.counts-is ∙ (w.add_trace.ensures.types ∙ c.loop-t.invariant.types);
        once =
            let counted : Once w.add_trace.new.self traces numbers (t + 1) (next + cond (eqb number next) 1 0) =
            once-counted c.loop-t.counts w.add_trace.new.self traces numbers t next number w.events.result.now (omega arith) w.events.ensures.events refl w.add_trace.ensures.counts c.loop-t.invariant.once in
            let is : c.if-number-next.next ≡ next + cond (eqb number next) 1 0 = w.next-is ∙ ap (λ n. next + n) (w.from-next.ensures ∙ one-or-none (eqb number next)) in
            subst (λ (x : Counts). Once x traces numbers (t + 1) c.if-number-next.next) (sym w.counts-is)
            (subst (λ (n : ℕ). Once w.add_trace.new.self traces numbers (t + 1) n) (sym is) counted);
      }
      | else-number-next w ↦ record {
        kinds = ap (λ (x : Counts). x.kinds) w.counts-is ∙ c.loop-t.invariant.kinds;
        types = ap (λ (x : Counts). x.types) w.counts-is ∙ c.loop-t.invariant.types;
        once =
            let passed : Once c.loop-t.counts traces numbers (t + 1) next =
            once-passed c.loop-t.counts traces numbers t next (omega arith) (omega arith) c.requires.words c.loop-t.invariant.once in
            subst (λ (x : Counts). Once x traces numbers (t + 1) c.if-number-next.next) (sym w.counts-is)
            (subst (λ (n : ℕ). Once c.loop-t.counts traces numbers (t + 1) n) (sym w.next-is) passed);
      }
    ]

pub returns-then-none_holds-clause-counts : goal.returns-then-none_holds-clause-counts
returns-then-none_holds-clause-counts c =
    once-broken c.loop-t.counts c.args.traces.now.traces c.args.numbers.now c.loop-t.t c.loop-t.next c.loop-t.invariant.once (c.none_holds.ensures c.if-none_holds.true)

pub returns-clause-counts : goal.returns-clause-counts
returns-clause-counts c =
    let traces : List Trace = c.args.traces.now.traces in
    once-end c.loop-t.counts traces c.args.numbers.now c.loop-t.t c.loop-t.next (take_all c.loop-t.t traces (omega (arith, c.trace_count-t-end.ensures.value))) c.loop-t.invariant.once
