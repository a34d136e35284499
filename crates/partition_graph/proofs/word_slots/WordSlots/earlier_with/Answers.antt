use Rattle.std.proofs.Common.{◌≡◌, ◌≢◌, ◌+◌, ◌<◌, ℕ, List, [], length, get_or, arith, ap, sym, ◌∙◌, true≢false}
use Rattle.std.proofs.lemmas.List.{get_or_default}
use Rattle.std.proofs.lemmas.Slice.Eq.{bytes_eq-Decides}
use Rattle.partition_graph.specs.Parts.{inner_words_of}
use Rattle.partition_graph.proofs.Looking.{slot-low, one-looked}
use Rattle.partition_graph.proofs.WordCells.{word_at}
use Rattle.partition_graph.proofs.word_slots.WordSlots.earlier_with.Goals.{Then-eq, Else-eq}
use Rattle.partition_graph.proofs.word_slots.WordSlots.earlier_with.Goals as goal

pub returns-then-eq : goal.returns-then-eq
returns-then-eq c =
    let inner : List (List ℕ) = inner_words_of c.args.traces.now in
    let slots : List ℕ = c.args.self.now.slots.items in
    let e : ℕ = c.in-Some.earlier in
    let t : ℕ = c.args.t in
    let same : c.loop-place.self.slots.items ≡ slots = c.loop-place.invariant.same in
    let long : length c.loop-place.self.slots.items ≡ length slots = ap (λ (xs : List ℕ). length xs) same in
    let inside : c.loop-place.place < length c.loop-place.self.slots.items = omega (arith, c.loop-place-test.true, c.home_of-home.ensures, c.len.ensures, c.requires.slots.some) in
    let read : c.index.result.now ≡ get_or c.loop-place.self.slots.items c.loop-place.place 0 = c.index.ensures ∙ get_or_default c.loop-place.self.slots.items c.loop-place.place c.index.result.now 0 inside in
    let at : get_or slots c.loop-place.place 0 ≡ e + 1 = sym (ap (λ (xs : List ℕ). get_or xs c.loop-place.place 0) same) ∙ (omega (arith, read, c.in-Some.ensures)) in
    let low : get_or slots c.loop-place.place 0 < t + 1 = omega (arith, slot-low t slots c.loop-place.place c.requires.slots) in
    let there : e < length c.args.traces.now.traces = omega (arith, c.requires.there) in
    let word : get_or inner t [] ≡ c.events-word.result.now = word_at c.args.traces.now.traces t c.events-word.result.now c.requires.there c.events-word.ensures.events in
    let other : get_or inner e [] ≡ c.events.result.now = word_at c.args.traces.now.traces e c.events.result.now there c.events.ensures.events in
    let equal : c.events.result.now ≡ c.events-word.result.now = (bytes_eq-Decides c.events.result.now c.events-word.result.now).0 (sym c.eq.ensures ∙ c.if-eq.true) in
    record {
      home = c.home_of-home.result;
      end = c.loop-place.place;
      from = omega (arith, c.loop-place.auto.place);
      within = omega (arith, c.loop-place-test.true);
      others = c.loop-place.invariant.others;
      outcome = ((at, other ∙ equal ∙ sym word), same);
    }

pub loop-place-preserved : goal.loop-place-preserved
loop-place-preserved c =
    let inner : List (List ℕ) = inner_words_of c.args.traces.now in
    let slots : List ℕ = c.args.self.now.slots.items in
    let e : ℕ = c.in-Some.earlier in
    let t : ℕ = c.args.t in
    let same : c.loop-place.self.slots.items ≡ slots = c.loop-place.invariant.same in
    let long : length c.loop-place.self.slots.items ≡ length slots = ap (λ (xs : List ℕ). length xs) same in
    let inside : c.loop-place.place < length c.loop-place.self.slots.items = omega (arith, c.loop-place-test.true, c.home_of-home.ensures, c.len.ensures, c.requires.slots.some) in
    let read : c.index.result.now ≡ get_or c.loop-place.self.slots.items c.loop-place.place 0 = c.index.ensures ∙ get_or_default c.loop-place.self.slots.items c.loop-place.place c.index.result.now 0 inside in
    let at : get_or slots c.loop-place.place 0 ≡ e + 1 = sym (ap (λ (xs : List ℕ). get_or xs c.loop-place.place 0) same) ∙ (omega (arith, read, c.in-Some.ensures)) in
    let low : get_or slots c.loop-place.place 0 < t + 1 = omega (arith, slot-low t slots c.loop-place.place c.requires.slots) in
    let there : e < length c.args.traces.now.traces = omega (arith, c.requires.there) in
    let word : get_or inner t [] ≡ c.events-word.result.now = word_at c.args.traces.now.traces t c.events-word.result.now c.requires.there c.events-word.ensures.events in
    let other : get_or inner e [] ≡ c.events.result.now = word_at c.args.traces.now.traces e c.events.result.now there c.events.ensures.events in
    let differs : c.events.result.now ≢ get_or inner t [] =
    λ s. true≢false (sym ((bytes_eq-Decides c.events.result.now c.events-word.result.now).1 (s ∙ word)) ∙ sym c.eq.ensures ∙ c.if-eq.false) in
    record {
      same = same;
      others = one-looked inner slots c.home_of-home.result c.loop-place.place e (get_or inner t []) c.events.result.now at other differs c.loop-place.invariant.others;
    }
