use Rattle.std.proofs.Common.{◌≡◌, ℕ, false, ◌+◌, ◌-◌, ◌*◌, ◌/◌, ◌%◌, ◌^◌, ◌<◌, length, get_or, refl, sym, ap, subst, arith, inl, inr}
use Rattle.std.proofs.lemmas.List.{get_or_past}
use Rattle.std.proofs.lemmas.Bool.{cases_lt}
use Rattle.std.proofs.lemmas.Nat.{div_below, div-add-mod', mod_below}
use Rattle.bit_rows.specs.Written.{word}
use Rattle.bit_rows.proofs.Done.{row_room, row_long, none_held}
use Rattle.bit_rows.proofs.Next.{next_in, none_to, none_past}
use Rattle.bit_rows.proofs.rows.Rows.next_set.Goals as goal

pub returns-then-from-self : goal.returns-then-from-self
returns-then-from-self c =
    let long = row_long _ c.self.inside.words.items c.self.inside.width c.self.inside.rows c.self.inside.bits c.args.r (sym c.self.view_is) c.requires in
    λ i after. get_or_past _ i false (omega (arith, long, c.if-from-self.true))

pub overflow_mul-start : goal.overflow_mul-start
overflow_mul-start c = record { fits = omega (arith, row_room _ c.self.inside.words.items c.self.inside.width c.self.inside.rows c.self.inside.bits c.args.r (sym c.self.view_is) c.requires, c.self.invariant.1, c.self.inside.words.small) }

pub overflow_add-start : goal.overflow_add-start
overflow_add-start c = record { fits = omega (arith, row_room _ c.self.inside.words.items c.self.inside.width c.self.inside.rows c.self.inside.bits c.args.r (sym c.self.view_is) c.requires, c.self.invariant.1, c.self.inside.words.small) }

pub returns-then-start-self : goal.returns-then-start-self
returns-then-start-self c = λ i after.
    none_held c.args.self.now c.self.inside.words.items c.self.inside.width c.self.inside.rows c.self.inside.bits c.args.r (sym c.self.view_is) c.self.invariant.0 c.requires (omega (arith, c.if-start-self.true, ap length c.as_slice-words.ensures.value)) i

pub offset_bounds-words-start : goal.offset_bounds-words-start
offset_bounds-words-start c =
    let here : c.args.from / 64 < c.self.inside.width = div_below c.args.from 64 c.self.inside.width (omega arith) (omega (arith, c.if-from-self.false, c.self.invariant.0.room)) in
    record { fits = omega (arith, here, c.if-start-self.false, ap length c.as_slice-words.ensures.value, c.self.inside.words.ok, c.self.inside.words.small) }

pub bounds-words-start : goal.bounds-words-start
bounds-words-start c =
    let here : c.args.from / 64 < c.self.inside.width = div_below c.args.from 64 c.self.inside.width (omega arith) (omega (arith, c.if-from-self.false, c.self.invariant.0.room)) in
    omega (arith, here, c.if-start-self.false, ap length c.as_slice-words.ensures.value)

pub returns-then-rest-ne0 : goal.returns-then-rest-ne0
returns-then-rest-ne0 c =
    let here : c.args.from / 64 < c.self.inside.width = div_below c.args.from 64 c.self.inside.width (omega arith) (omega (arith, c.if-from-self.false, c.self.invariant.0.room)) in
    let split : c.args.from / 64 * 64 + c.args.from % 64 ≡ c.args.from = div-add-mod' c.args.from 64 in
    let some : 0 < c.from_place-rest.result = omega (arith, c.if-rest-ne0.true) in
    next_in _ c.self.inside.words.items c.as_slice-words.result.now c.self.inside.width c.self.inside.rows c.self.inside.bits c.args.r c.args.from (sym c.self.view_is) c.self.invariant.0 c.as_slice-words.ensures.value c.requires (c.args.from / 64) c.from_place-rest.result here some c.from_place-rest.ensures.fits
    (λ j below from. c.from_place-rest.ensures.behind j (omega arith)) (λ j below early. c.from_place-rest.ensures.below j (omega arith)) (λ i after before. absurd (omega arith))

pub overflow_add-start-2 : goal.overflow_add-start-2
overflow_add-start-2 c =
    let here : c.args.from / 64 < c.self.inside.width = div_below c.args.from 64 c.self.inside.width (omega arith) (omega (arith, c.if-from-self.false, c.self.invariant.0.room)) in
    record { fits = omega (arith, here, c.if-start-self.false, ap length c.as_slice-words.ensures.value, c.self.inside.words.ok, c.self.inside.words.small) }

pub first_word-requires : goal.first_word-requires
first_word-requires c =
    let here : c.args.from / 64 < c.self.inside.width = div_below c.args.from 64 c.self.inside.width (omega arith) (omega (arith, c.if-from-self.false, c.self.invariant.0.room)) in
    omega (arith, here, c.if-start-self.false, ap length c.as_slice-words.ensures.value)

pub returns-then-k-self : goal.returns-then-k-self
returns-then-k-self c =
    let here : c.args.from / 64 < c.self.inside.width = div_below c.args.from 64 c.self.inside.width (omega arith) (omega (arith, c.if-from-self.false, c.self.invariant.0.room)) in
    let none = none_to _ c.self.inside.words.items c.as_slice-words.result.now c.self.inside.width c.self.inside.rows c.self.inside.bits c.args.r c.args.from (sym c.self.view_is) c.self.invariant.0 c.as_slice-words.ensures.value c.requires (c.args.from / 64) c.from_place-rest.result c.self.inside.width refl here (omega arith) (omega arith) c.if-rest-ne0.false c.from_place-rest.ensures.behind (λ j below. c.first_word.ensures.before j (omega (arith, c.if-k-self.true))) in
    λ i after. elim (cases_lt i (c.self.inside.width * 64)) [
      | inl below ↦ none i after below
      | inr past ↦ none_past _ c.self.inside.words.items c.as_slice-words.result.now c.self.inside.width c.self.inside.rows c.self.inside.bits c.args.r c.args.from (sym c.self.view_is) c.self.invariant.0 c.as_slice-words.ensures.value c.requires i past
    ]

pub overflow_mul-result-2 : goal.overflow_mul-result-2
overflow_mul-result-2 c =
    let here : c.args.from / 64 < c.self.inside.width = div_below c.args.from 64 c.self.inside.width (omega arith) (omega (arith, c.if-from-self.false, c.self.invariant.0.room)) in
    let from_end : c.args.from < c.args.from / 64 * 64 + 64 = omega (arith, div-add-mod' c.args.from 64, mod_below c.args.from 64 (omega arith)) in
    let read = c.from_place-rest.ensures.behind in
    let small : c.first_word.result < c.self.inside.width - (c.args.from / 64 + 1) = omega (arith, c.first_word.ensures.within, c.if-k-self.false, here) in
    let k : ℕ = c.args.from / 64 + 1 + c.first_word.result in
    let place : c.args.r * c.self.inside.width + (c.args.from / 64 + 1) + c.first_word.result ≡ c.args.r * c.self.inside.width + k = omega arith in
    let same : word c.as_slice-words.result.now (c.args.r * c.self.inside.width + (c.args.from / 64 + 1)) c.first_word.result ≡ word c.as_slice-words.result.now (c.args.r * c.self.inside.width) k = ap (λ p. get_or c.as_slice-words.result.now p 0) place in
    let none = none_to _ c.self.inside.words.items c.as_slice-words.result.now c.self.inside.width c.self.inside.rows c.self.inside.bits c.args.r c.args.from (sym c.self.view_is) c.self.invariant.0 c.as_slice-words.ensures.value c.requires (c.args.from / 64) c.from_place-rest.result k refl here (omega arith) (omega arith) (c.if-rest-ne0.false) read (λ j below. c.first_word.ensures.before j (omega arith)) in
    let next = next_in _ c.self.inside.words.items c.as_slice-words.result.now c.self.inside.width c.self.inside.rows c.self.inside.bits c.args.r c.args.from (sym c.self.view_is) c.self.invariant.0 c.as_slice-words.ensures.value c.requires k (word c.as_slice-words.result.now (c.args.r * c.self.inside.width) k) (omega arith) (subst (λ x. 0 < x) same (c.first_word.ensures.found small)) (subst (λ x. x < 2 ^ 64) same c.first_word.ensures.fits) (λ j below from. refl) (λ j below early. absurd (omega (arith, from_end))) none in
    let long = row_long _ c.self.inside.words.items c.self.inside.width c.self.inside.rows c.self.inside.bits c.args.r (sym c.self.view_is) c.requires in
    record { fits = omega (arith, next.within, long, c.self.invariant.0.limit) }

pub overflow_add-result-3 : goal.overflow_add-result-3
overflow_add-result-3 c =
    let here : c.args.from / 64 < c.self.inside.width = div_below c.args.from 64 c.self.inside.width (omega arith) (omega (arith, c.if-from-self.false, c.self.invariant.0.room)) in
    let from_end : c.args.from < c.args.from / 64 * 64 + 64 = omega (arith, div-add-mod' c.args.from 64, mod_below c.args.from 64 (omega arith)) in
    let read = c.from_place-rest.ensures.behind in
    let small : c.first_word.result < c.self.inside.width - (c.args.from / 64 + 1) = omega (arith, c.first_word.ensures.within, c.if-k-self.false, here) in
    let k : ℕ = c.args.from / 64 + 1 + c.first_word.result in
    let place : c.args.r * c.self.inside.width + (c.args.from / 64 + 1) + c.first_word.result ≡ c.args.r * c.self.inside.width + k = omega arith in
    let same : word c.as_slice-words.result.now (c.args.r * c.self.inside.width + (c.args.from / 64 + 1)) c.first_word.result ≡ word c.as_slice-words.result.now (c.args.r * c.self.inside.width) k = ap (λ p. get_or c.as_slice-words.result.now p 0) place in
    let none = none_to _ c.self.inside.words.items c.as_slice-words.result.now c.self.inside.width c.self.inside.rows c.self.inside.bits c.args.r c.args.from (sym c.self.view_is) c.self.invariant.0 c.as_slice-words.ensures.value c.requires (c.args.from / 64) c.from_place-rest.result k refl here (omega arith) (omega arith) (c.if-rest-ne0.false) read (λ j below. c.first_word.ensures.before j (omega arith)) in
    let next = next_in _ c.self.inside.words.items c.as_slice-words.result.now c.self.inside.width c.self.inside.rows c.self.inside.bits c.args.r c.args.from (sym c.self.view_is) c.self.invariant.0 c.as_slice-words.ensures.value c.requires k (word c.as_slice-words.result.now (c.args.r * c.self.inside.width) k) (omega arith) (subst (λ x. 0 < x) same (c.first_word.ensures.found small)) (subst (λ x. x < 2 ^ 64) same c.first_word.ensures.fits) (λ j below from. refl) (λ j below early. absurd (omega (arith, from_end))) none in
    let long = row_long _ c.self.inside.words.items c.self.inside.width c.self.inside.rows c.self.inside.bits c.args.r (sym c.self.view_is) c.requires in
    record { fits = omega (arith, next.within, long, c.self.invariant.0.limit) }

pub returns : goal.returns
returns c =
    let here : c.args.from / 64 < c.self.inside.width = div_below c.args.from 64 c.self.inside.width (omega arith) (omega (arith, c.if-from-self.false, c.self.invariant.0.room)) in
    let from_end : c.args.from < c.args.from / 64 * 64 + 64 = omega (arith, div-add-mod' c.args.from 64, mod_below c.args.from 64 (omega arith)) in
    let read = c.from_place-rest.ensures.behind in
    let small : c.first_word.result < c.self.inside.width - (c.args.from / 64 + 1) = omega (arith, c.first_word.ensures.within, c.if-k-self.false, here) in
    let k : ℕ = c.args.from / 64 + 1 + c.first_word.result in
    let place : c.args.r * c.self.inside.width + (c.args.from / 64 + 1) + c.first_word.result ≡ c.args.r * c.self.inside.width + k = omega arith in
    let same : word c.as_slice-words.result.now (c.args.r * c.self.inside.width + (c.args.from / 64 + 1)) c.first_word.result ≡ word c.as_slice-words.result.now (c.args.r * c.self.inside.width) k = ap (λ p. get_or c.as_slice-words.result.now p 0) place in
    let none = none_to _ c.self.inside.words.items c.as_slice-words.result.now c.self.inside.width c.self.inside.rows c.self.inside.bits c.args.r c.args.from (sym c.self.view_is) c.self.invariant.0 c.as_slice-words.ensures.value c.requires (c.args.from / 64) c.from_place-rest.result k refl here (omega arith) (omega arith) (c.if-rest-ne0.false) read (λ j below. c.first_word.ensures.before j (omega arith)) in
    let next = next_in _ c.self.inside.words.items c.as_slice-words.result.now c.self.inside.width c.self.inside.rows c.self.inside.bits c.args.r c.args.from (sym c.self.view_is) c.self.invariant.0 c.as_slice-words.ensures.value c.requires k (word c.as_slice-words.result.now (c.args.r * c.self.inside.width) k) (omega arith) (subst (λ x. 0 < x) same (c.first_word.ensures.found small)) (subst (λ x. x < 2 ^ 64) same c.first_word.ensures.fits) (λ j below from. refl) (λ j below early. absurd (omega (arith, from_end))) none in
    next
