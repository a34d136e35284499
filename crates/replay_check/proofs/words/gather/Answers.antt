use Rattle.std.proofs.Common.{◌≡◌, ◌+◌, ◌<◌, ◌≤◌, ◌++◌, ◌∷◌, [], ℕ, List, take, drop, take_all, length, get_or, sym, ◌∙◌, ap, ap₂, arith}
use Rattle.std.proofs.lemmas.List.{length-map, length-take-le, take_more}
use Rattle.traces.specs.Words.{Trace}
use Rattle.replay_check.specs.Laid.{inner_words_of}
use Rattle.replay_check.specs.Sharing.{gathered}
use Rattle.replay_check.proofs.Spreading.{gathered-few, gathered-more}
use Rattle.replay_check.proofs.Starting.{word-at, laid-length}
use Rattle.replay_check.proofs.words.gather.Goals as goal

pub part-requires : goal.part-requires
part-requires c =
    let t : ℕ = c.loop-t.t in
    let inside : t < length c.args.traces.now.traces = omega (arith, c.loop-t-test.true, c.trace_count-t-end.ensures.value) in
    let at : get_or (inner_words_of c.args.traces.now) t [] ≡ c.events.result.now = word-at c.args.traces.now.traces t c.events.result.now inside c.events.ensures.events in
    let long : length (get_or (inner_words_of c.args.traces.now) t []) ≡ length c.events.result.now = ap length at in
    omega (arith, c.requires.inside t inside)

pub loop-t-preserved : goal.loop-t-preserved
loop-t-preserved c =
    let inner : List (List ℕ) = inner_words_of c.args.traces.now in
    let t : ℕ = c.loop-t.t in
    let ids : List ℕ = c.args.ids.now in
    let places : List ℕ = c.args.places.now in
    let inside : t < length c.args.traces.now.traces = omega (arith, c.loop-t-test.true, c.trace_count-t-end.ensures.value) in
    let long : length inner ≡ length c.args.traces.now.traces = length-map c.args.traces.now.traces (λ (trace : Trace). trace.events) in
    let count : length places ≡ length c.args.traces.now.traces = c.requires.count in
    let at : get_or inner t [] ≡ c.events.result.now = word-at c.args.traces.now.traces t c.events.result.now inside c.events.ensures.events in
    let words : take (t + 1) inner ≡ take t inner ++ get_or inner t [] ∷ [] = take_more inner t [] (omega arith) in
    let starts : take (t + 1) places ≡ take t places ++ get_or places t 0 ∷ [] = take_more places t 0 (omega arith) in
    let same : length (take t places) ≡ length (take t inner) = length-take-le t places (omega arith) ∙ sym (length-take-le t inner (omega arith)) in
    let size : length c.events.result.now + 2 ≡ length (get_or inner t []) + 2 = ap (λ n. n + 2) (sym (ap length at)) in
    let new : c.part.result.now ≡ take (length (get_or inner t []) + 2) (drop (get_or places t 0) ids) = c.part.ensures ∙ ap (λ n. take n (drop (get_or places t 0) ids)) size in
    c.in_ok-extend_from_slice.ensures.items ∙ ap₂ (λ (xs ys : List ℕ). xs ++ ys) c.loop-t.invariant new
    ∙ sym (gathered-more ids (take t places) (take t inner) (get_or places t 0) (get_or inner t []) same)
    ∙ ap₂ (λ (ps : List ℕ) (ws : List (List ℕ)). gathered ids ps ws) (sym starts) (sym words)

pub returns-clause-gathered : goal.returns-clause-gathered
returns-clause-gathered c =
    let inner : List (List ℕ) = inner_words_of c.args.traces.now in
    let long : length inner ≡ length c.args.traces.now.traces = length-map c.args.traces.now.traces (λ (trace : Trace). trace.events) in
    let count : length c.args.places.now ≡ length c.args.traces.now.traces = c.requires.count in
    let all : length c.args.traces.now.traces ≤ c.loop-t.t = omega (arith, c.loop-t-test.false, c.trace_count-t-end.ensures.value) in
    c.loop-t.invariant ∙ ap₂ (λ (ps : List ℕ) (ws : List (List ℕ)). gathered c.args.ids.now ps ws) (take_all c.loop-t.t c.args.places.now (omega arith)) (take_all c.loop-t.t inner (omega arith))

pub returns-clause-few : goal.returns-clause-few
returns-clause-few c =
    let inner : List (List ℕ) = inner_words_of c.args.traces.now in
    let long : length inner ≡ length c.args.traces.now.traces = length-map c.args.traces.now.traces (λ (trace : Trace). trace.events) in
    let count : length c.args.places.now ≡ length c.args.traces.now.traces = c.requires.count in
    let all : length c.args.traces.now.traces ≤ c.loop-t.t = omega (arith, c.loop-t-test.false, c.trace_count-t-end.ensures.value) in
    let e : c.loop-t.all.items ≡ gathered c.args.ids.now c.args.places.now inner =
    c.loop-t.invariant ∙ ap₂ (λ (ps : List ℕ) (ws : List (List ℕ)). gathered c.args.ids.now ps ws) (take_all c.loop-t.t c.args.places.now (omega arith)) (take_all c.loop-t.t inner (omega arith)) in
    omega (arith, ap length e, gathered-few c.args.ids.now c.args.places.now inner, laid-length c.args.traces.now.traces, c.event_count-events.ensures.value, c.event_count-events.ensures.few, c.trace_count-t-end.ensures.value, c.trace_count-t-end.ensures.few)
