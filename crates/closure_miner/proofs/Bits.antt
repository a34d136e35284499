-- The types of a set of one word after its operations, and of one of two.
use Rattle.std.proofs.Common.{◌≡◌, ℕ, ◌+◌, ◌-◌, ◌*◌, ◌/◌, ◌%◌, ◌^◌, ◌<◌, ◌≤◌, ◌⊎◌, min, max, ◌&&◌, ◌||◌, cond, eqb, nat_lt, refl, sym, ap, ◌∙◌, arith, inl, inr}
use Rattle.std.proofs.lemmas.Bool.{cases_eq, cases_lt, eq-eqb, ne_eqb, lt-ltb, le-ltb}
use Rattle.std.proofs.lemmas.Nat.{shr-shr}
use Rattle.std.proofs.lemmas.Nat.Bits.{bit_at-lt, bit_at_ones, bit_at_ones_above, bit_at_or, bit_at_and, bit_at_set_same, bit_at_set_other}
use mir.Val.{bits}
use Rattle.std.specs.Int.{bit_at, Width}
use Rattle.std.specs.Int.Bits.{bit_or}
use lib.Bits.{bit_and}
use Rattle.closure_miner.specs.Sets.{in_word}

-- a digit is 0 or 1
digit : (a : ℕ) → a < 2 → (a ≡ 0) ⊎ (a ≡ 1)
digit a h = elim (cases_eq a 0) [ inl e ↦ inl e | inr e ↦ inr (let one : a ≡ 1 = grind arith in one) ]

or-digit : (a b : ℕ) → a < 2 → b < 2 → eqb (max a b) 1 ≡ (eqb a 1 || eqb b 1)
or-digit a b ha hb = elim (digit a ha) [
  | inl p ↦ elim (digit b hb) [ inl q ↦ rw p (rw q refl) | inr q ↦ rw p (rw q refl) ]
  | inr p ↦ elim (digit b hb) [ inl q ↦ rw p (rw q refl) | inr q ↦ rw p (rw q refl) ]
]

and-digit : (a b : ℕ) → a < 2 → b < 2 → eqb (min a b) 1 ≡ (eqb a 1 && eqb b 1)
and-digit a b ha hb = elim (digit a ha) [
  | inl p ↦ elim (digit b hb) [ inl q ↦ rw p (rw q refl) | inr q ↦ rw p (rw q refl) ]
  | inr p ↦ elim (digit b hb) [ inl q ↦ rw p (rw q refl) | inr q ↦ rw p (rw q refl) ]
]

-- the types that are in one of two sets
pub has-either : (s t i : ℕ) → in_word (bit_or s t) i ≡ (in_word s i || in_word t i)
has-either s t i = ap (λ x. eqb x 1) (bit_at_or s t i) ∙ or-digit (bit_at s i) (bit_at t i) (bit_at-lt s i) (bit_at-lt t i)

-- the types that are in both of two sets
pub has-both : (s t i : ℕ) → in_word (bit_and s t) i ≡ (in_word s i && in_word t i)
has-both s t i = ap (λ x. eqb x 1) (bit_at_and s t i) ∙ and-digit (bit_at s i) (bit_at t i) (bit_at-lt s i) (bit_at-lt t i)

-- a set with the type at a place
pub has-with : (w : Width) (s p b : ℕ) → p < bits w → in_word (bit_or s (1 * 2 ^ p % 2 ^ bits w)) b ≡ (eqb b p || in_word s b)
has-with w s p b within = elim (cases_eq b p) [
  | inl same ↦
      ap (λ k. in_word (bit_or s (1 * 2 ^ p % 2 ^ bits w)) k) same ∙ ap (λ k. eqb k 1) (bit_at_set_same w s p within)
      ∙ sym (ap (λ t. t || in_word s b) (eq-eqb b p same))
  | inr other ↦
      ap (λ k. eqb k 1) (bit_at_set_other w s p within b other) ∙ sym (ap (λ t. t || in_word s b) (ne_eqb b p other))
]

-- the lowest bits of a set with all bits are those of the first types
pub has-lowest : (n types : ℕ) → types ≤ n → (b : ℕ) → in_word ((2 ^ n - 1) / 2 ^ (n - types)) b ≡ nat_lt b types
has-lowest n types few b =
    ap (λ d. eqb (d % 2) 1) (shr-shr (2 ^ n - 1) (n - types) b)
    ∙ elim (cases_lt b types) [
      | inl within ↦ ap (λ d. eqb d 1) (bit_at_ones n (n - types + b) (omega arith)) ∙ sym (lt-ltb b types within)
      | inr past ↦ ap (λ d. eqb d 1) (bit_at_ones_above n (n - types + b) (omega arith)) ∙ sym (le-ltb b types past)
    ]

-- in two words, all bits of the low one and the lowest of the high one are those of the first types
pub has-two : (types high : ℕ) → 128 < types → ((q : ℕ) → in_word high q ≡ nat_lt q (types - 128)) → (p : ℕ)
    → cond (nat_lt p 128) (in_word (2 ^ 128 - 1) p) (in_word high (p - 128)) ≡ nat_lt p types
has-two types high many first p = elim (cases_lt p 128) [
  | inl low ↦
      ap (λ t. cond t (in_word (2 ^ 128 - 1) p) (in_word high (p - 128))) (lt-ltb p 128 low)
      ∙ ap (λ d. eqb d 1) (bit_at_ones 128 p low) ∙ sym (lt-ltb p types (omega arith))
  | inr past ↦
      ap (λ t. cond t (in_word (2 ^ 128 - 1) p) (in_word high (p - 128))) (le-ltb p 128 past) ∙ first (p - 128)
      ∙ elim (cases_lt p types) [
        | inl within ↦ lt-ltb (p - 128) (types - 128) (omega arith) ∙ sym (lt-ltb p types within)
        | inr beyond ↦ le-ltb (p - 128) (types - 128) (omega arith) ∙ sym (le-ltb p types beyond)
      ]
]
