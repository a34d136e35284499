-- The first invariant for which two ids clash, word by word.
use Rattle.std.proofs.Common.{◌≡◌, ◌==◌, ℕ, ◌+◌, ◌-◌, ◌*◌, ◌/◌, ◌%◌, ◌<◌, Bool, true, false, ◌&&◌, ◌||◌, List, [], ◌∷◌, zero, suc, refl, length, bit_and, bit_or, sym, ap, ap₂, ◌∙◌, ◌⊎◌, inl, inr, arith}
use Rattle.std.proofs.lemmas.Bool.{cases_lt, true≢false}
use Rattle.std.proofs.lemmas.Nat.{div-add-mod'}
use Rattle.std.specs.Int.{bit_at}
use Rattle.invariants.specs.declared.Invariant.{Invariant}
use Rattle.partition_graph.specs.NeighbourWords.{IsWordOf}
use Rattle.partition_graph.proofs.NeighbourWords.{word-both, word-either, word-same}
use Rattle.clashes.specs.Marks.{Marks, on, has_clash, IsFirstClash}
use Rattle.clashes.specs.Layout.{fore_row, back_row, row_count, fores_in, backs_in, marks_in}
use Rattle.limits.specs.declared.TheConstants.{MAX_PARTITIONS}
use Rattle.bit_rows.specs.Tables.{row_at, is_set, HasShape}
use Rattle.clashes.proofs.Laid.{fore_is, back_is}

-- the words of the four rows say for which invariants the two ids clash
pub clash-word : (invs : List Invariant) (others : ℕ) (T : List (List Bool)) (p q place a b c d : ℕ) → IsWordOf (λ k. on T (fore_row others p) k) place a → IsWordOf (λ k. on T (back_row others q) k) place b
    → IsWordOf (λ k. on T (fore_row others q) k) place c → IsWordOf (λ k. on T (back_row others p) k) place d
    → IsWordOf (λ k. has_clash (marks_in invs others T) k p q) place (bit_or (bit_and a b) (bit_and c d))
clash-word invs others T p q place a b c d ia ib ic id =
    word-same (λ k. (on T (fore_row others p) k && on T (back_row others q) k) || (on T (fore_row others q) k && on T (back_row others p) k)) (λ k. has_clash (marks_in invs others T) k p q) place
    (bit_or (bit_and a b) (bit_and c d))
    (λ k. ap₂ (λ (x y : Bool). x || y) (ap₂ (λ (x y : Bool). x && y) (sym (fore_is others T p k)) (sym (back_is others T q k))) (ap₂ (λ (x y : Bool). x && y) (sym (fore_is others T q k)) (sym (back_is others T p k))))
    (word-either (λ k. on T (fore_row others p) k && on T (back_row others q) k) (λ k. on T (fore_row others q) k && on T (back_row others p) k) place (bit_and a b) (bit_and c d)
    (word-both (λ k. on T (fore_row others p) k) (λ k. on T (back_row others q) k) place a b ia ib) (word-both (λ k. on T (fore_row others q) k) (λ k. on T (back_row others p) k) place c d ic id))

-- where the four rows have no bit in common, the two ids do not clash
pub no-clash : (invs : List Invariant) (others : ℕ) (T : List (List Bool)) (p q k a b c d : ℕ) → a ≡ fore_row others p → b ≡ back_row others q → c ≡ fore_row others q → d ≡ back_row others p
    → ((on T a k && on T b k) || (on T c k && on T d k)) ≡ false → has_clash (marks_in invs others T) k p q ≡ false
no-clash invs others T p q k a b c d is_a is_b is_c is_d none =
    let row : (r s : ℕ) → r ≡ s → on T s k ≡ on T r k = λ r s e. ap (λ (n : ℕ). on T n k) (sym e) in
    ap₂ (λ (x y : Bool). x || y) (ap₂ (λ (x y : Bool). x && y) (fore_is others T p k ∙ row a (fore_row others p) is_a) (back_is others T q k ∙ row b (back_row others q) is_b))
    (ap₂ (λ (x y : Bool). x && y) (fore_is others T q k ∙ row c (fore_row others q) is_c) (back_is others T p k ∙ row d (back_row others p) is_d))
    ∙ none

-- a truth value that is true is in its row
set-within : (row : List Bool) (k : ℕ) → is_set row k ≡ true → k < length row
set-within [] k e = absurd (true≢false (sym e))
set-within (x ∷ row) zero e = omega arith
set-within (x ∷ row) (suc k) e = let l : k < length row = set-within row k e in omega arith

one-of : (a b c d : Bool) → ((a && b) || (c && d)) ≡ true → (a ≡ true) ⊎ (c ≡ true)
one-of true b c d e = inl refl
one-of false b true d e = inr refl
one-of false b false d e = absurd (true≢false (sym e))

-- ids clash for invariants of the list alone
pub clash-within : (invs : List Invariant) (others : ℕ) (T : List (List Bool)) (p q k : ℕ) → HasShape T (row_count others) (length invs) → p < MAX_PARTITIONS → q < MAX_PARTITIONS
    → has_clash (marks_in invs others T) k p q ≡ true → k < length invs
clash-within invs others T p q k h lp lq e =
    elim (one-of (on (fores_in others T) p k) (on (backs_in others T) q k) (on (fores_in others T) q k) (on (backs_in others T) p k) e) [
      | inl m ↦
          let l : k < length (row_at T (fore_row others p)) = set-within (row_at T (fore_row others p)) k (sym (fore_is others T p k) ∙ m) in
          let s : length (row_at T (fore_row others p)) ≡ length invs = h.long (fore_row others p) (omega (arith, lp)) in
          omega arith
      | inr m ↦
          let l : k < length (row_at T (fore_row others q)) = set-within (row_at T (fore_row others q)) k (sym (fore_is others T q k) ∙ m) in
          let s : length (row_at T (fore_row others q)) ≡ length invs = h.long (fore_row others q) (omega (arith, lq)) in
          omega arith
    ]

-- where no bit of the word is on, no invariant of its 64 has a clash
pub none-in-word : (has : ℕ → Bool) (first w : ℕ) → first % 64 ≡ 0 → IsWordOf has (first / 64) w → ((i : ℕ) → i < 64 → bit_at w i ≡ 0) → ((k : ℕ) → k < first → has k ≡ false)
    → (k : ℕ) → k < first + 64 → has k ≡ false
none-in-word has first w whole is off before k l =
    elim (cases_lt k first) [
      | inl old ↦ before k old
      | inr new ↦
          let i : ℕ = k - first in
          let at : first / 64 * 64 + i ≡ k = omega (arith, new, whole, div-add-mod' first 64) in
          let low : i < 64 = omega (arith, l, at, new) in
          sym (ap (λ (n : ℕ). has n) at) ∙ sym (is i low) ∙ ap (λ (b : ℕ). b == 1) (off i low)
    ]

-- the lowest bit that is on is that of the first clash
pub first-in-word : (marks : Marks) (p q first w t : ℕ) → first % 64 ≡ 0 → IsWordOf (λ k. has_clash marks k p q) (first / 64) w → t < 64 → bit_at w t ≡ 1 → ((i : ℕ) → i < t → bit_at w i ≡ 0)
    → ((k : ℕ) → has_clash marks k p q ≡ true → k < length marks.invs) → ((k : ℕ) → k < first → has_clash marks k p q ≡ false) → IsFirstClash marks p q (first + t)
first-in-word marks p q first w t whole is low on-t off within before =
    let at : (i : ℕ) → first / 64 * 64 + i ≡ first + i = λ i. omega (arith, whole, div-add-mod' first 64) in
    let here : has_clash marks (first + t) p q ≡ true = sym (ap (λ (n : ℕ). has_clash marks n p q) (at t)) ∙ sym (is t low) ∙ ap (λ (b : ℕ). b == 1) on-t in
    record {
      within = within (first + t) here;
      clash = here;
      first = λ j l. elim (cases_lt j first) [
        | inl old ↦ before j old
        | inr new ↦
            let i : ℕ = j - first in
            let same : first / 64 * 64 + i ≡ j = omega (arith, at i, new) in
            sym (ap (λ (n : ℕ). has_clash marks n p q) same) ∙ sym (is i (omega (arith, l, low, new))) ∙ ap (λ (b : ℕ). b == 1) (off i (omega (arith, l, new)))
      ];
    }
