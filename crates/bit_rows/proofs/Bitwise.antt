-- Words against their bits.
use Rattle.std.proofs.Common.{◌≡◌, ℕ, ◌+◌, ◌-◌, ◌%◌, ◌^◌, ◌<◌, min, max, not, ◌&&◌, ◌||◌, eqb, refl, sym, ap, ◌∙◌, arith, ◌⊎◌, inl, inr}
use Rattle.std.proofs.lemmas.Nat.Bits.{bit_at-lt, bit_at-zero, bit_at_or, bit_at_and, bit_at_xor, bit_at_not, same_from_bits, same_from_bits_below}
use Rattle.std.proofs.lemmas.Bool.{cases_eq, eqb-false}
use Rattle.std.specs.Int.{bit_at, bit_not, w64}
use Rattle.std.specs.Int.Bits.{bit_or, bit_xor}
use lib.Bits.{bit_and}

xor_digit : (a b : ℕ) → a < 2 → b < 2 → (a + b) % 2 ≡ 0 → a ≡ b
xor_digit a b ha hb e = omega arith

-- two words whose exclusive or is 0 are one
pub same_from_xor : (a b : ℕ) → bit_xor a b ≡ 0 → a ≡ b
same_from_xor a b e = same_from_bits a b (λ i.
    xor_digit (bit_at a i) (bit_at b i) (bit_at-lt a i) (bit_at-lt b i) (sym (bit_at_xor a b i) ∙ ap (λ x. bit_at x i) e ∙ bit_at-zero i))

-- a digit that is 0 or 1, as a truth value
pub digit_cases : (a : ℕ) → a < 2 → (a ≡ 0) ⊎ (a ≡ 1)
digit_cases a h = elim (cases_eq a 0) [ inl e ↦ inl e | inr e ↦ inr (let one : a ≡ 1 = grind arith in one) ]

same_digits : (a b : ℕ) → a < 2 → b < 2 → eqb a 1 ≡ eqb b 1 → a ≡ b
same_digits a b ha hb e = elim (digit_cases a ha) [
  | inl p ↦ elim (digit_cases b hb) [ inl q ↦ p ∙ sym q | inr q ↦ absurd (eqb-false b 1 (sym e ∙ ap (λ x. eqb x 1) p) q) ]
  | inr p ↦ elim (digit_cases b hb) [ inl q ↦ absurd (eqb-false a 1 (e ∙ ap (λ x. eqb x 1) q) p) | inr q ↦ p ∙ sym q ]
]

-- two words of 64 bits with the same bits are one
pub same_words : (a b : ℕ) → a < 2 ^ 64 → b < 2 ^ 64 → ((j : ℕ) → j < 64 → eqb (bit_at a j) 1 ≡ eqb (bit_at b j) 1) → a ≡ b
same_words a b ha hb h = same_from_bits_below 64 a b ha hb (λ j below. same_digits (bit_at a j) (bit_at b j) (bit_at-lt a j) (bit_at-lt b j) (h j below))

or_digit : (a b : ℕ) → a < 2 → b < 2 → eqb (max a b) 1 ≡ (eqb a 1 || eqb b 1)
or_digit a b ha hb = elim (digit_cases a ha) [
  | inl p ↦ elim (digit_cases b hb) [ inl q ↦ rw p (rw q refl) | inr q ↦ rw p (rw q refl) ]
  | inr p ↦ elim (digit_cases b hb) [ inl q ↦ rw p (rw q refl) | inr q ↦ rw p (rw q refl) ]
]

and_digit : (a b : ℕ) → a < 2 → b < 2 → eqb (min a b) 1 ≡ (eqb a 1 && eqb b 1)
and_digit a b ha hb = elim (digit_cases a ha) [
  | inl p ↦ elim (digit_cases b hb) [ inl q ↦ rw p (rw q refl) | inr q ↦ rw p (rw q refl) ]
  | inr p ↦ elim (digit_cases b hb) [ inl q ↦ rw p (rw q refl) | inr q ↦ rw p (rw q refl) ]
]

not_digit : (b : ℕ) → b < 2 → eqb (1 - b) 1 ≡ not (eqb b 1)
not_digit b hb = elim (digit_cases b hb) [ inl q ↦ rw q refl | inr q ↦ rw q refl ]

-- a bit of the or of two words is set where it is set in one of them
pub or_bit : (a b j : ℕ) → eqb (bit_at (bit_or a b) j) 1 ≡ (eqb (bit_at a j) 1 || eqb (bit_at b j) 1)
or_bit a b j = ap (λ x. eqb x 1) (bit_at_or a b j) ∙ or_digit (bit_at a j) (bit_at b j) (bit_at-lt a j) (bit_at-lt b j)

-- a bit of the and of two words is set where it is set in both
pub and_bit : (a b j : ℕ) → eqb (bit_at (bit_and a b) j) 1 ≡ (eqb (bit_at a j) 1 && eqb (bit_at b j) 1)
and_bit a b j = ap (λ x. eqb x 1) (bit_at_and a b j) ∙ and_digit (bit_at a j) (bit_at b j) (bit_at-lt a j) (bit_at-lt b j)

-- a bit of the complement of a word is set where it is not set in the word
pub not_bit : (b j : ℕ) → b < 2 ^ 64 → j < 64 → eqb (bit_at (bit_not w64 b) j) 1 ≡ not (eqb (bit_at b j) 1)
not_bit b j fits below = ap (λ x. eqb x 1) (bit_at_not w64 b j fits below) ∙ not_digit (bit_at b j) (bit_at-lt b j)
