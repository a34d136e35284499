-- Words with a bit for each of 64 numbers, and what is made of them.
use Rattle.std.proofs.Common.{◌≡◌, ◌≢◌, ℕ, ◌+◌, ◌-◌, ◌*◌, ◌/◌, ◌%◌, ◌^◌, ◌<◌, ◌≤◌, ◌==◌, ◌&&◌, ◌||◌, not, Bool, false, eqb, eq-eqb, ne_eqb, w64, sym, ap, ap₂, ◌∙◌, arith, inl, inr}
use Rattle.std.proofs.lemmas.Bool.{cases_eq, cases_lt}
use Rattle.std.proofs.lemmas.Nat.{shr-shr, shr_le, div-add-mod', mod_below, one_shl}
use Rattle.std.proofs.lemmas.Nat.Bits.{bit_at-zero, bit_at-trailing_zeros, bit_at_above, bit_at-pow_same, bit_at-pow_other}
use Rattle.std.specs.Int.{bit_at, bit_not, trailing_zeros}
use Rattle.std.specs.Int.Bits.{bit_or}
use lib.Bits.{bit_and}
use Rattle.bit_rows.proofs.Bitwise.{or_bit, and_bit, not_bit}
use Rattle.partition_graph.specs.NeighbourWords.{IsWordOf}
use Rattle.partition_graph.specs.Nexts.{IsNext}

-- the word of a property that is the same for its numbers
pub word-same : (has other : ℕ → Bool) (place x : ℕ) → ((n : ℕ) → has n ≡ other n) → IsWordOf has place x → IsWordOf other place x
word-same has other place x same is i below = is i below ∙ same (place * 64 + i)

-- the numbers with one of two properties
pub word-either : (a b : ℕ → Bool) (place x y : ℕ) → IsWordOf a place x → IsWordOf b place y → IsWordOf (λ n. a n || b n) place (bit_or x y)
word-either a b place x y is too i below = or_bit x y i ∙ ap₂ (λ s t. s || t) (is i below) (too i below)

-- the numbers with both
pub word-both : (a b : ℕ → Bool) (place x y : ℕ) → IsWordOf a place x → IsWordOf b place y → IsWordOf (λ n. a n && b n) place (bit_and x y)
word-both a b place x y is too i below = and_bit x y i ∙ ap₂ (λ s t. s && t) (is i below) (too i below)

-- the numbers without one
pub word-without : (a : ℕ → Bool) (place x : ℕ) → x < 2 ^ 64 → IsWordOf a place x → IsWordOf (λ n. not (a n)) place (bit_not w64 x)
word-without a place x fits is i below = not_bit x i fits below ∙ ap not (is i below)

-- the word of one number, in which its bit is
pub word-here : (id place : ℕ) → id / 64 ≡ place → IsWordOf (λ n. n == id) place (1 * 2 ^ (id % 64) % 2 ^ 64)
word-here id place is i below =
    let col : id % 64 < 64 = mod_below id 64 (omega arith) in
    let split : id / 64 * 64 + id % 64 ≡ id = div-add-mod' id 64 in
    ap (λ y. eqb (bit_at y i) 1) (one_shl (id % 64) 64 col) ∙ elim (cases_eq i (id % 64)) [
      | inl same ↦
          let whole : place * 64 + i ≡ id = omega (arith, same, split, is) in
          ap (λ k. eqb (bit_at (2 ^ (id % 64)) k) 1) same ∙ ap (λ y. eqb y 1) (bit_at-pow_same (id % 64)) ∙ sym (eq-eqb (place * 64 + i) id whole)
      | inr other ↦
          ap (λ y. eqb y 1) (bit_at-pow_other (id % 64) i other) ∙ sym (ne_eqb (place * 64 + i) id (λ e. other (omega (arith, e, split, is, below, col))))
    ]

-- the word of 0 has none of its numbers
pub word-blank : (has : ℕ → Bool) (place x : ℕ) → IsWordOf has place x → x ≡ 0 → (i : ℕ) → i < 64 → has (place * 64 + i) ≡ false
word-blank has place x is none i below = sym (is i below) ∙ ap (λ y. eqb (bit_at y i) 1) none ∙ ap (λ y. eqb y 1) (bit_at-zero i)

-- the bits of a word after the lowest ones are dropped
dropped : (x s j : ℕ) → bit_at (x / 2 ^ s) j ≡ bit_at x (s + j)
dropped x s j = ap (λ y. y % 2) (shr-shr x s j)

-- where nothing is left of the word of a number, none has the property from there to the end of the word
pub none_in_word : (has : ℕ → Bool) (from x : ℕ) → IsWordOf has (from / 64) x → x / 2 ^ (from % 64) ≡ 0 → (i : ℕ) → from ≤ i → i < from / 64 * 64 + 64 → has i ≡ false
none_in_word has from x is none i after below =
    let split : from / 64 * 64 + from % 64 ≡ from = div-add-mod' from 64 in
    let j : ℕ = i - from in
    let k : ℕ = from % 64 + j in
    let whole : from / 64 * 64 + k ≡ i = omega (arith, split, after) in
    let small : k < 64 = omega (arith, whole, below) in
    sym (ap has whole) ∙ sym (is k small) ∙ ap (λ y. eqb y 1) (sym (dropped x (from % 64) j) ∙ ap (λ y. bit_at y j) none ∙ bit_at-zero j)

-- else the lowest bit that is left is the next one
pub next_in_word : (has : ℕ → Bool) (from x : ℕ) → IsWordOf has (from / 64) x → x < 2 ^ 64 → x / 2 ^ (from % 64) ≢ 0 → IsNext has from (from + trailing_zeros w64 (x / 2 ^ (from % 64)))
next_in_word has from x is fits some =
    let rest : ℕ = x / 2 ^ (from % 64) in
    let t : ℕ = trailing_zeros w64 rest in
    let split : from / 64 * 64 + from % 64 ≡ from = div-add-mod' from 64 in
    let low : rest ≤ x = shr_le x (from % 64) in
    let lowest = bit_at-trailing_zeros w64 rest (omega (arith, some)) (omega (arith, low, fits)) in
    let at : bit_at x (from % 64 + t) ≡ 1 = sym (dropped x (from % 64) t) ∙ lowest.1 in
    let small : from % 64 + t < 64 = elim (cases_lt (from % 64 + t) 64) [
      | inl inside ↦ inside
      | inr past ↦ absurd (omega (arith, at, bit_at_above x 64 (from % 64 + t) fits past))
    ] in
    let whole : from / 64 * 64 + (from % 64 + t) ≡ from + t = omega (arith, split) in
    record {
      reached = omega arith;
      there = sym (ap has whole) ∙ sym (is (from % 64 + t) small) ∙ eq-eqb (bit_at x (from % 64 + t)) 1 at;
      first = λ i after before.
          let j : ℕ = i - from in
          let k : ℕ = from % 64 + j in
          let joined : from / 64 * 64 + k ≡ i = omega (arith, split, after) in
          let lower : j < t = omega (arith, after, before) in
          sym (ap has joined) ∙ sym (is k (omega (arith, small, lower))) ∙ ap (λ y. eqb y 1) (sym (dropped x (from % 64) j) ∙ lowest.2 j lower);
    }
