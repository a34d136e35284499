use Rattle.std.proofs.Common.{◌≡◌, ◌<◌, ◌++◌, ◌∷◌, [], ℕ, List, set, get_or, refl, sym, ◌∙◌, ap, subst, inl, inr, length, arith}
use Rattle.std.proofs.lemmas.Bool.{cases_eq}
use Rattle.std.proofs.lemmas.List.{get_or-set_same, get_or-set_other, get_or_default}
use Rattle.std.specs.List.{All}
use Rattle.traces.specs.Kept.{IsTypeNumber}
use Rattle.partition_model.specs.Assignments.{with_ends}
use Rattle.replay_check.specs.Laid.{inner_words_of}
use Rattle.replay_check.proofs.Noting.{laid-behind}
use Rattle.replay_check.proofs.Starting.{word-at}
use Rattle.replay_check.proofs.words.note.Goals as goal

pub returns-clause-noted : goal.returns-clause-noted
returns-clause-noted c =
    let t : ℕ = c.args.t in
    let w : List ℕ = c.events-word.result.now in
    let kept : List ℕ = c.args.kept.now in
    let slot : ℕ = c.slot_of-slot.result in
    let ids : List ℕ = c.args.ids.now.items in
    let at : get_or (inner_words_of c.args.traces.now) t [] ≡ w = word-at c.args.traces.now.traces t w c.requires.there c.events-word.ensures.events in
    let room : slot < length kept = omega (arith, c.slot_of-slot.ensures, c.requires.size) in
    let long : c.len.result ≡ length c.args.ids.now.items = omega (arith, c.len.ensures) in
    inr (record {
      places_are = c.in_ok-push-2.ensures.items ∙ ap (λ n. c.args.places.now.items ++ n ∷ []) long;
      kept_are = λ s. elim (cases_eq s slot) [
        | inl e ↦ inl (ap (λ z. get_or (set kept slot t) z 0) e ∙ get_or-set_same kept slot t 0 room)
        | inr n ↦ inr (get_or-set_other kept slot s t 0 (λ e. n (omega (arith, e))))
      ];
      ids_are = rw (c.in_ok-push-4.ensures.items, c.in_ok-extend_from_slice.ensures.items, c.in_ok-push-3.ensures.items) (sym (laid-behind ids w) ∙ ap (λ (v : List ℕ). ids ++ with_ends v) (sym at));
    })

pub returns-clause-numbers : goal.returns-clause-numbers
returns-clause-numbers c =
    let at : get_or (inner_words_of c.args.traces.now) c.args.t [] ≡ c.events-word.result.now = word-at c.args.traces.now.traces c.args.t c.events-word.result.now c.requires.there c.events-word.ensures.events in
    subst (λ (ws : List ℕ). All (IsTypeNumber (length c.args.traces.now.types)) ws) (sym at) c.events-word.ensures.numbers

pub bounds-kept-slot : goal.bounds-kept-slot
bounds-kept-slot c = omega (arith, c.slot_of-slot.ensures, c.requires.size)

pub bounds-kept-slot-2 : goal.bounds-kept-slot-2
bounds-kept-slot-2 c = omega (arith, c.slot_of-slot.ensures, c.requires.size)

pub events-requires : goal.events-requires
events-requires c = omega (arith, c.requires.low c.slot_of-slot.result, c.requires.there)

pub returns-then-same_numbers-clause-noted : goal.returns-then-same_numbers-clause-noted
returns-then-same_numbers-clause-noted c =
    let inner : List (List ℕ) = inner_words_of c.args.traces.now in
    let t : ℕ = c.args.t in
    let slot : ℕ = c.slot_of-slot.result in
    let k : ℕ = get_or c.args.kept.now slot 0 in
    let there : k < length c.args.traces.now.traces = omega (arith, c.requires.low slot, c.requires.there) in
    let at : get_or inner t [] ≡ c.events-word.result.now = word-at c.args.traces.now.traces t c.events-word.result.now c.requires.there c.events-word.ensures.events in
    let met : get_or inner k [] ≡ c.events.result.now = word-at c.args.traces.now.traces k c.events.result.now there c.events.ensures.events in
    let before : k < length c.args.places.now.items = omega (arith, c.requires.low slot, c.requires.count, c.if-t-gt0.true) in
    let place : c.index-place.result.now ≡ get_or c.args.places.now.items k 0 = c.index-place.ensures ∙ get_or_default c.args.places.now.items k c.index-place.result.now 0 before in
    inl (
      record {
        later = c.if-t-gt0.true;
        slot = slot;
        same = at ∙ c.same_numbers.ensures.0 c.if-same_numbers.true ∙ sym met;
        places_are = c.in_ok-push.ensures.items ∙ ap (λ n. c.args.places.now.items ++ n ∷ []) place;
      },
      refl,
      refl,
    )

pub returns-then-same_numbers-clause-numbers : goal.returns-then-same_numbers-clause-numbers
returns-then-same_numbers-clause-numbers c =
    let at : get_or (inner_words_of c.args.traces.now) c.args.t [] ≡ c.events-word.result.now = word-at c.args.traces.now.traces c.args.t c.events-word.result.now c.requires.there c.events-word.ensures.events in
    subst (λ (ws : List ℕ). All (IsTypeNumber (length c.args.traces.now.types)) ws) (sym at) c.events-word.ensures.numbers
