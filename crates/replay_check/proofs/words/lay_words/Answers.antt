use Rattle.std.proofs.Common.{◌≡◌, ◌≤◌, ◌+◌, ◌<◌, ◌++◌, ◌∷◌, [], ℕ, List, take, take_all, length, get_or, replicate, sym, ◌∙◌, ap, subst, subst₂, arith}
use Rattle.std.proofs.lemmas.List.{length-map, take_more, with_items_is}
use Rattle.std.proofs.lemmas.List.Elements.{recursion_from_All}
use Rattle.traces.specs.Words.{Trace}
use Rattle.traces.specs.Kept.{IsTypeNumber}
use Rattle.partition_model.specs.Assignments.{by_type}
use Rattle.replay_check.specs.declared.words.TheConstants.{SLOTS}
use Rattle.replay_check.specs.Laid.{inner_words_of, HaveIdsBelow}
use Rattle.replay_check.specs.Sharing.{IsNoted}
use Rattle.replay_check.proofs.Noting.{IsLaying, kept-none, laying-first, laying-count, laying-more, laying-all}
use Rattle.replay_check.proofs.Starting.{AreRanged, ranged-more, ranged-below}
use Rattle.replay_check.proofs.words.lay_words.Goals as goal

pub loop-t-init : goal.loop-t-init
loop-t-init c =
    let none : (length c.in_ok-kept.kept.items ≡ SLOTS) × ((s : ℕ) → get_or c.in_ok-kept.kept.items s 0 ≡ 0) = kept-none SLOTS c.in_ok-kept.kept.items (c.in_ok-kept.ensures.items_if_clones_equal (λ y same. same)) in
    record {
      size = none.0;
      laying = subst₂ (λ (ps xs : List ℕ). IsLaying (inner_words_of c.args.traces.now) 0 c.in_ok-kept.kept.items ps xs) (sym c.requires) (sym c.new-ids.ensures.items)
          (laying-first (inner_words_of c.args.traces.now) c.in_ok-kept.kept.items none.1);
      ranged = tt;
    }

pub note-requires-clause-there : goal.note-requires-clause-there
note-requires-clause-there c = omega (arith, c.loop-t-test.true, c.trace_count-t-end.ensures.value)

pub note-requires-clause-size : goal.note-requires-clause-size
note-requires-clause-size c = ap length c.as_mut_slice.ensures.value ∙ c.loop-t.invariant.size

pub note-requires-clause-low : goal.note-requires-clause-low
note-requires-clause-low c = λ s.
    let e : get_or c.as_mut_slice.result.now s 0 ≡ get_or c.loop-t.kept.items s 0 = ap (λ (xs : List ℕ). get_or xs s 0) c.as_mut_slice.ensures.value in
    omega (arith, c.loop-t.invariant.laying.low s)

pub note-requires-clause-count : goal.note-requires-clause-count
note-requires-clause-count c =
    let inner : List (List ℕ) = inner_words_of c.args.traces.now in
    let long : length inner ≡ length c.args.traces.now.traces = length-map c.args.traces.now.traces (λ (trace : Trace). trace.events) in
    laying-count inner c.loop-t.t c.loop-t.kept.items c.loop-t.places.items c.loop-t.ids.items (omega (arith, c.loop-t-test.true, c.trace_count-t-end.ensures.value)) c.loop-t.invariant.laying

pub loop-t-preserved : goal.loop-t-preserved
loop-t-preserved c =
    let inner : List (List ℕ) = inner_words_of c.args.traces.now in
    let t : ℕ = c.loop-t.t in
    let n : ℕ = length c.args.traces.now.types + 2 in
    let w : List ℕ = get_or inner t [] in
    let new : List ℕ = c.note.new.kept in
    let long : length inner ≡ length c.args.traces.now.traces = length-map c.args.traces.now.traces (λ (trace : Trace). trace.events) in
    let inside : t < length inner = omega (arith, c.loop-t-test.true, c.trace_count-t-end.ensures.value) in
    let kept-are : take c.loop-t.kept.len (new ++ Rattle.std.proofs.Common.drop (length new) c.loop-t.kept.items) ≡ new = with_items_is c.loop-t.kept new (omega (arith, c.note.auto.kept, c.as_mut_slice.ensures.len)) in
    let noted : IsNoted inner t c.loop-t.kept.items new c.loop-t.places.items c.note.new.places.items c.loop-t.ids.items c.note.new.ids.items =
    subst (λ (xs : List ℕ). IsNoted inner t xs new c.loop-t.places.items c.note.new.places.items c.loop-t.ids.items c.note.new.ids.items) c.as_mut_slice.ensures.value c.in_ok-note.ensures.noted in
    let more : take (t + 1) inner ≡ take t inner ++ w ∷ [] = take_more inner t [] inside in
    record {
      size = ap length kept-are ∙ c.in_ok-note.ensures.size ∙ ap length c.as_mut_slice.ensures.value ∙ c.loop-t.invariant.size;
      laying = subst (λ (xs : List ℕ). IsLaying inner (t + 1) xs c.note.new.places.items c.note.new.ids.items) (sym kept-are)
          (laying-more inner t c.loop-t.kept.items new c.loop-t.places.items c.note.new.places.items c.loop-t.ids.items c.note.new.ids.items inside noted c.loop-t.invariant.laying);
      ranged = subst (λ (vs : List (List ℕ)). AreRanged n vs) (sym more) (ranged-more n (take t inner) w c.loop-t.invariant.ranged (recursion_from_All (IsTypeNumber (length c.args.traces.now.types)) w c.in_ok-note.ensures.numbers));
    }

pub returns-clause-laid : goal.returns-clause-laid
returns-clause-laid c =
    let inner : List (List ℕ) = inner_words_of c.args.traces.now in
    let long : length inner ≡ length c.args.traces.now.traces = length-map c.args.traces.now.traces (λ (trace : Trace). trace.events) in
    laying-all inner c.loop-t.t c.loop-t.kept.items c.loop-t.places.items c.loop-t.ids.items (omega (arith, c.loop-t-test.false, c.trace_count-t-end.ensures.value)) c.loop-t.invariant.laying

pub returns-clause-below : goal.returns-clause-below
returns-clause-below c =
    let inner : List (List ℕ) = inner_words_of c.args.traces.now in
    let long : length inner ≡ length c.args.traces.now.traces = length-map c.args.traces.now.traces (λ (trace : Trace). trace.events) in
    let e : take c.loop-t.t inner ≡ inner = take_all c.loop-t.t inner (omega (arith, c.loop-t-test.false, c.trace_count-t-end.ensures.value)) in
    subst (λ (vs : List (List ℕ)). HaveIdsBelow (length c.args.traces.now.types + 2) (by_type vs)) e (ranged-below (length c.args.traces.now.types + 2) (take c.loop-t.t inner) c.loop-t.invariant.ranged)
