-- What writes to rows leave of each bit.
use Rattle.std.proofs.Common.{◌≡◌, ◌≢◌, ℕ, ◌<◌, Bool, false, ◌&&◌, ◌||◌, List, [], length, set, replicate, refl, sym, ap, ◌∙◌, subst, arith, inl, inr}
use Rattle.std.proofs.lemmas.List.{get_or-set_same, get_or-set_other, get_or-replicate, length-replicate, get_or_past}
use Rattle.std.proofs.lemmas.Bool.{cases_lt}
use Rattle.std.proofs.lemmas.Simd.{length-zip2}
use Rattle.bit_rows.specs.Tables.{row_at, is_set, HasShape, either, both}
use Rattle.bit_rows.proofs.Done.{is_set-zip2}
use Rattle.clashes.specs.Marks.{on}

-- the row that is written is the new one
pub set_here : (T new : List (List Bool)) (to : ℕ) (row : List Bool) → to < length T → new ≡ set T to row → row_at new to ≡ row
set_here T new to row h e = ap (λ t. row_at t to) e ∙ get_or-set_same T to row [] h

-- a row that is not written stays
pub set_other : (T new : List (List Bool)) (to s : ℕ) (row : List Bool) → s ≢ to → new ≡ set T to row → row_at new s ≡ row_at T s
set_other T new to s row n e = ap (λ t. row_at t s) e ∙ get_or-set_other T to s row [] n

-- bits are added to a row
pub record IsPropagated (old new : List (List Bool)) (to : ℕ) (given : ℕ → Bool) : Type 0 where
  pub here : (k : ℕ) → on new to k ≡ (on old to k || given k)
  pub others : (s k : ℕ) → s ≢ to → on new s k ≡ on old s k

-- a row that takes up another has the bits of that one too
pub or_propagated : (T new : List (List Bool)) (n bits to from : ℕ) → HasShape T n bits → to < n → from < n
    → new ≡ set T to (either (row_at T to) (row_at T from)) → IsPropagated T new to (on T from)
or_propagated T new n bits to from h lt lf e =
    record {
      here = λ k. ap (λ row. is_set row k) (set_here T new to (either (row_at T to) (row_at T from)) (omega (arith, h.count)) e)
          ∙ is_set-zip2 (λ x y. x || y) refl (row_at T to) (row_at T from) k (h.long to lt ∙ sym (h.long from lf));
      others = λ s k ns. ap (λ row. is_set row k) (set_other T new to s (either (row_at T to) (row_at T from)) ns e);
    }

-- a row that takes up what two others have in common has these bits too
pub or_and_propagated : (T new : List (List Bool)) (n bits to a mask : ℕ) → HasShape T n bits → to < n → a < n → mask < n
    → new ≡ set T to (either (row_at T to) (both (row_at T a) (row_at T mask))) → IsPropagated T new to (λ k. on T a k && on T mask k)
or_and_propagated T new n bits to a mask h lt la lm e =
    let same : length (row_at T a) ≡ length (row_at T mask) = h.long a la ∙ sym (h.long mask lm) in
    let long : length (both (row_at T a) (row_at T mask)) ≡ bits = length-zip2 (λ x y. x && y) (row_at T a) (row_at T mask) same ∙ h.long a la in
    record {
      here = λ k. ap (λ row. is_set row k) (set_here T new to (either (row_at T to) (both (row_at T a) (row_at T mask))) (omega (arith, h.count)) e)
          ∙ is_set-zip2 (λ x y. x || y) refl (row_at T to) (both (row_at T a) (row_at T mask)) k (h.long to lt ∙ sym long)
          ∙ ap (λ b. on T to k || b) (is_set-zip2 (λ x y. x && y) refl (row_at T a) (row_at T mask) k same);
      others = λ s k ns. ap (λ row. is_set row k) (set_other T new to s (either (row_at T to) (both (row_at T a) (row_at T mask))) ns e);
    }

-- a row is cleared
pub record IsCleared (old new : List (List Bool)) (r : ℕ) : Type 0 where
  pub here : (k : ℕ) → on new r k ≡ false
  pub others : (s k : ℕ) → s ≢ r → on new s k ≡ on old s k

-- a row of nothing but false has no bit set
pub none_set : (n k : ℕ) → is_set (replicate n false) k ≡ false
none_set n k =
    elim (cases_lt k n) [
      | inl below ↦ get_or-replicate n k false false below
      | inr past ↦ get_or_past (replicate n false) k false (omega (arith, length-replicate n false))
    ]

-- a row that is written as nothing but false is cleared
pub clear_done : (T new : List (List Bool)) (r n : ℕ) → r < length T → new ≡ set T r (replicate n false) → IsCleared T new r
clear_done T new r n l e =
    record {
      here = λ k. ap (λ row. is_set row k) (set_here T new r (replicate n false) l e) ∙ none_set n k;
      others = λ s k ns. ap (λ row. is_set row k) (set_other T new r s (replicate n false) ns e);
    }

-- a row takes up another, where the numbers of both are given by other terms
pub or_propagated_at : (T new : List (List Bool)) (n bits to from to' from' : ℕ) → to ≡ to' → from ≡ from' → HasShape T n bits → to' < n → from' < n
    → new ≡ set T to (either (row_at T to) (row_at T from)) → IsPropagated T new to' (on T from')
or_propagated_at T new n bits to from to' from' a b h lt lf e =
    subst (λ (x : ℕ). IsPropagated T new x (on T from')) a (subst (λ (y : ℕ). IsPropagated T new to (on T y)) b
    (or_propagated T new n bits to from h (omega arith) (omega arith) e))

-- a row takes up what two others have in common, where the numbers of all three are given by other terms
pub or_and_propagated_at : (T new : List (List Bool)) (n bits to a mask to' a' mask' : ℕ) → to ≡ to' → a ≡ a' → mask ≡ mask' → HasShape T n bits → to' < n → a' < n → mask' < n
    → new ≡ set T to (either (row_at T to) (both (row_at T a) (row_at T mask))) → IsPropagated T new to' (λ k. on T a' k && on T mask' k)
or_and_propagated_at T new n bits to a mask to' a' mask' et ea em h lt la lm e =
    subst (λ (x : ℕ). IsPropagated T new x (λ k. on T a' k && on T mask' k)) et (subst (λ (y : ℕ). IsPropagated T new to (λ k. on T y k && on T mask' k)) ea (subst (λ (z : ℕ). IsPropagated T new to (λ k. on T a k && on T z k)) em
    (or_and_propagated T new n bits to a mask h (omega arith) (omega arith) (omega arith) e)))
