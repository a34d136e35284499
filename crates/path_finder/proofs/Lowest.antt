-- The lowest bit of a word that is on.
use Rattle.std.proofs.Common.{◌≡◌, ◌≢◌, ℕ, Bool, true, false, refl, zero, suc, ◌+◌, ◌-◌, ◌*◌, ◌/◌, ◌%◌, ◌<◌, min, bit_and, eq-eqb, sym, ◌∙◌, ap, ap₂, subst, inl, inr, arith}
use Rattle.std.specs.Int.{bit_at}
use Rattle.std.proofs.lemmas.Bool.{cases_eq, true≢false}
use Rattle.std.proofs.lemmas.Nat.{div-add-mod', mod_below}
use Rattle.std.proofs.lemmas.Nat.Bits.{bit_at_and, bit_at_lowest, bit_at-lt, bit_at-suc}
use Rattle.partition_graph.specs.NeighbourWords.{IsWordOf}
use Rattle.partition_graph.specs.Nexts.{IsNext}
use Rattle.path_finder.specs.Bits.{IsLowestBit}
use Rattle.path_finder.proofs.PairSets.{bit-on, off-zero, on, own-bits}
use Rattle.path_finder.proofs.WordSteps.{bit-of-word}

-- a bit of both words above the lowest place is one of their halves
halves : (x y h i : ℕ) → y / 2 ≡ h → bit_at (bit_and x y) (suc i) ≡ bit_at (bit_and (x / 2) h) i
halves x y h i is =
    bit_at_and x y (suc i) ∙ ap₂ (λ (a b : ℕ). min a b) (bit_at-suc x i) (bit_at-suc y i ∙ ap (λ (z : ℕ). bit_at z i) is) ∙ sym (bit_at_and (x / 2) h i)

-- where no other bit of the half changes, none of the word does
doubled : (p x : ℕ) → bit_at x 0 ≡ 0 → (x - 1) / 2 ≡ x / 2 - 1 → ((i : ℕ) → i ≢ p → bit_at (bit_and (x / 2) (x / 2 - 1)) i ≡ bit_at (x / 2) i)
    → (i : ℕ) → i ≢ suc p → bit_at (bit_and x (x - 1)) i ≡ bit_at x i
doubled p x off half upper zero ne = omega (arith, off, bit_at_and x (x - 1) 0)
doubled p x off half upper (suc i) ne = halves x (x - 1) (x / 2 - 1) i half ∙ upper i (λ same. ne (ap suc same)) ∙ sym (bit_at-suc x i)

-- the lowest bit that is on is off where the number before was taken from the word by its bits, and no other bit changes
pub lowest-off : (p x : ℕ) → IsLowestBit x p → (bit_at (bit_and x (x - 1)) p ≡ 0) × ((i : ℕ) → i ≢ p → bit_at (bit_and x (x - 1)) i ≡ bit_at x i)
lowest-off zero x is =
    let odd : x % 2 ≡ 1 = sym (bit_at_lowest x) ∙ is.on in
    let half : (x - 1) / 2 ≡ x / 2 = omega (arith, odd) in
    let off : bit_at (x - 1) 0 ≡ 0 = omega (arith, odd, bit_at_lowest (x - 1)) in
    (omega (arith, off, bit_at_and x (x - 1) 0), other half)
  where
    other : (x - 1) / 2 ≡ x / 2 → (i : ℕ) → i ≢ 0 → bit_at (bit_and x (x - 1)) i ≡ bit_at x i
    other half zero ne = absurd (ne refl)
    other half (suc i) ne = halves x (x - 1) (x / 2) i half ∙ (let both : bit_at (bit_and (x / 2) (x / 2)) i ≡ bit_at (x / 2) i = omega (arith, bit_at_and (x / 2) (x / 2) i) in both) ∙ sym (bit_at-suc x i)
lowest-off (suc p) x is =
    let off : bit_at x 0 ≡ 0 = is.below 0 (omega arith) in
    let even : x % 2 ≡ 0 = sym (bit_at_lowest x) ∙ off in
    let half : (x - 1) / 2 ≡ x / 2 - 1 = omega (arith, even) in
    let upper = lowest-off p (x / 2) (record { on = sym (bit_at-suc x p) ∙ is.on; below = λ i l. sym (bit_at-suc x i) ∙ is.below (suc i) (omega arith) }) in
    (halves x (x - 1) (x / 2 - 1) p half ∙ upper.0, doubled p x off half upper.1)

-- a word with a bit that is on is not 0
pub some-on : (x i : ℕ) → on x i ≡ true → 0 < x
some-on x i is = elim (cases_eq x 0) [
  | inl none ↦ absurd (true≢false (sym is ∙ off-zero x i none))
  | inr some ↦ omega (arith, some)
]

-- the bit of the first number of a word is the lowest that is on
pub lowest-of-word : (place x id : ℕ) → ((h : ℕ → Bool) → IsWordOf h (place * 64 / 64) x → IsNext h (place * 64) id) → IsLowestBit x (id % 64)
lowest-of-word place x id next =
    record {
      on = bit-on x (id % 64) f.1;
      below = λ i l.
          let n : ℕ = place * 64 + i in
          let there : id / 64 * 64 + id % 64 ≡ id = div-add-mod' id 64 in
          let col : id % 64 < 64 = mod_below id 64 (omega arith) in
          let same : place ≡ place * 64 / 64 = omega (arith, div-add-mod' (place * 64) 64, mod_below (place * 64) 64 (omega arith)) in
          let at : n % 64 ≡ i = omega (arith, l, col, div-add-mod' n 64, mod_below n 64 (omega arith)) in
          let off : on x (n % 64) ≡ false = (next (λ m. on x (m % 64)) (subst (λ (w : ℕ). IsWordOf (λ m. on x (m % 64)) w x) same (own-bits place x))).first n (omega arith) (omega (arith, l, f.0, there)) in
          elim (cases_eq (bit_at x i) 0) [
            | inl none ↦ none
            | inr some ↦ absurd (true≢false (sym (eq-eqb (bit_at x i) 1 (omega (arith, some, bit_at-lt x i))) ∙ ap (λ (k : ℕ). on x k) (sym at) ∙ off))
          ];
    }
  where
    f : (id / 64 ≡ place) × (on x (id % 64) ≡ true)
    f = bit-of-word place x id next
