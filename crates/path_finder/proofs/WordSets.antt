-- Sets of ids as words: which ids are in them.
use Rattle.std.proofs.Common.{◌≡◌, ◌==◌, ◌||◌, ◌<◌, ◌≤◌, ◌+◌, ◌*◌, ◌/◌, ◌%◌, ℕ, zero, suc, Bool, true, false, List, [], ◌∷◌, length, set, slice_index, slice_index_or, get_or-set_same, get_or-set_other, refl, sym, ap, subst, ◌∙◌, inl, inr, arith}
use Rattle.std.proofs.lemmas.Bool.{cases_lt, true≢false}
use Rattle.std.proofs.lemmas.Nat.{div-add-mod', mod_below}
use Rattle.std.proofs.lemmas.Nat.Bits.{bit_at-zero}
use Rattle.std.specs.Int.{bit_at}
use Rattle.std.specs.Int.Bits.{bit_or}
use Rattle.partition_graph.specs.NeighbourWords.{IsWordOf}
use Rattle.partition_graph.proofs.NeighbourWords.{word-either}

-- an id with the bit of its word on is in the set
in-word : (kept : ℕ → Bool) (words : List ℕ) (p : ℕ) → IsWordOf kept (p / 64) (slice_index words (p / 64)) → kept p ≡ true → (bit_at (slice_index words (p / 64)) (p % 64) == 1) ≡ true
in-word kept words p is k =
    let same : p / 64 * 64 + p % 64 ≡ p = omega (arith, div-add-mod' p 64) in
    is (p % 64) (mod_below p 64 (omega arith)) ∙ ap (λ (n : ℕ). kept n) same ∙ k

-- a flag that is on is in the list
pub on-within : (flags : List Bool) (p : ℕ) → slice_index_or flags p false ≡ true → p < length flags
on-within [] p e = absurd (true≢false (sym e))
on-within (x ∷ flags) zero e = omega arith
on-within (x ∷ flags) (suc p) e = let l : p < length flags = on-within flags p e in omega arith

-- an id of one set or the other is in the set of both
pub is-in : (one other : ℕ → Bool) (words : List ℕ) (p : ℕ) → p < 1024 → ((place : ℕ) → place < 16 → IsWordOf (λ n. one n || other n) place (slice_index words place))
    → (one p || other p) ≡ true → (bit_at (slice_index words (p / 64)) (p % 64) == 1) ≡ true
is-in one other words p l are k = in-word (λ n. one n || other n) words p (are (p / 64) (omega (arith, l, div-add-mod' p 64))) k

-- what is past the end of a list of words
pub past-end : (words : List ℕ) (k : ℕ) → length words ≤ k → slice_index words k ≡ 0
past-end [] k l = refl
past-end (w ∷ words) zero l = absurd (omega arith)
past-end (w ∷ words) (suc k) l = past-end words k (omega arith)

-- an id of a set of sixteen words is below the number of its bits
pub below-bits : (words : List ℕ) (p : ℕ) → length words ≡ 16 → (bit_at (slice_index words (p / 64)) (p % 64) == 1) ≡ true → p < 1024
below-bits words p s e =
    elim (cases_lt p 1024) [
      | inl l ↦ l
      | inr h ↦
          let z : slice_index words (p / 64) ≡ 0 = past-end words (p / 64) (omega (arith, s, h, div-add-mod' p 64, mod_below p 64 (omega arith))) in
          absurd (true≢false (sym e ∙ ap (λ (w : ℕ). bit_at w (p % 64) == 1) z ∙ ap (λ (b : ℕ). b == 1) (bit_at-zero (p % 64))))
    ]

-- the words of both sets, up to one place more
pub words-more : (one other : ℕ → Bool) (words : List ℕ) (k x y : ℕ) → k < length words → IsWordOf one k x → IsWordOf other k y
    → ((place : ℕ) → place < k → IsWordOf (λ n. one n || other n) place (slice_index words place))
    → (place : ℕ) → place < k + 1 → IsWordOf (λ n. one n || other n) place (slice_index (set words k (bit_or x y)) place)
words-more one other words k x y inside a b before place below i low =
    elim (cases_lt place k) [
      | inl old ↦
          ap (λ (w : ℕ). bit_at w i == 1) (get_or-set_other words k place (bit_or x y) 0 (λ e. omega (arith, e, old)))
          ∙ before place old i low
      | inr new ↦
          let same : place ≡ k = omega (arith, below, new) in
          subst (λ (p : ℕ). (bit_at (slice_index (set words k (bit_or x y)) p) i == 1) ≡ (one (p * 64 + i) || other (p * 64 + i))) (sym same)
          (ap (λ (w : ℕ). bit_at w i == 1) (get_or-set_same words k (bit_or x y) 0 inside) ∙ word-either one other k x y a b i low)
    ]
