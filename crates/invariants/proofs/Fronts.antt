-- Fronts of a list, one item longer at a time, and what passes of them.
use Rattle.std.proofs.Common.{◌≡◌, ℕ, zero, suc, ◌+◌, ◌≤◌, Bool, true, false, List, [], ◌∷◌, ◌++◌, length, take, cond, Some, None, sym, ap, ◌∙◌, arith, add-one, append-nil, take_all}
use Rattle.std.proofs.lemmas.Bool.{cond-true, cond-false}
use Rattle.std.proofs.lemmas.List.Elements.{filter-append}
use Rattle.std.proofs.lemmas.Option.{same_Some, none-some}
use Rattle.std.specs.List.{filter, slice_get}

-- the first items and the next one
pub take-snoc : {X : Type 0} (xs : List X) (i : ℕ) (x : X) → slice_get xs i ≡ Some x → take (i + 1) xs ≡ take i xs ++ x ∷ []
take-snoc [] i x at = absurd (none-some x at)
take-snoc (y ∷ xs) zero x at = ap (λ z. z ∷ []) (same_Some y x at)
take-snoc (y ∷ xs) (suc i) x at = rw add-one (ap (λ zs. y ∷ zs) (sym (ap (λ n. take n xs) (add-one i)) ∙ take-snoc xs i x at))

-- what passes of a front with one item more is what passed before, and the item where it passes
filter-more : {X : Type 0} (p : X → Bool) (xs : List X) (i : ℕ) (x : X) → slice_get xs i ≡ Some x → filter p (take (i + 1) xs) ≡ filter p (take i xs) ++ cond (p x) (x ∷ []) []
filter-more p xs i x at = ap (filter p) (take-snoc xs i x at) ∙ filter-append p (take i xs) (x ∷ [])

-- an item that passes comes behind those that passed before it
pub kept : {X : Type 0} (p : X → Bool) (xs : List X) (i : ℕ) (x : X) (old new : List X) → slice_get xs i ≡ Some x → p x ≡ true → old ≡ filter p (take i xs) → new ≡ old ++ x ∷ [] → new ≡ filter p (take (i + 1) xs)
kept p xs i x old new at holds so_far grown =
    grown ∙ (ap (λ ys. ys ++ x ∷ []) so_far ∙ sym (filter-more p xs i x at ∙ ap (λ ys. filter p (take i xs) ++ ys) (cond-true _ _ _ holds)))

-- an item that does not pass changes nothing of what passed
pub dropped : {X : Type 0} (p : X → Bool) (xs : List X) (i : ℕ) (x : X) (old new : List X) → slice_get xs i ≡ Some x → p x ≡ false → old ≡ filter p (take i xs) → new ≡ old → new ≡ filter p (take (i + 1) xs)
dropped p xs i x old new at fails so_far same =
    same ∙ (so_far ∙ sym (filter-more p xs i x at ∙ (ap (λ ys. filter p (take i xs) ++ ys) (cond-false _ _ _ fails) ∙ append-nil (filter p (take i xs)))))

-- past the end of a list nothing more passes
pub past : {X : Type 0} (p : X → Bool) (xs : List X) (i : ℕ) (old new : List X) → length xs ≤ i → old ≡ filter p (take i xs) → new ≡ old → new ≡ filter p (take (i + 1) xs)
past p xs i old new end so_far same =
    same ∙ (so_far ∙ ap (filter p) (take_all i xs end ∙ sym (take_all (i + 1) xs (omega arith))))

-- a place where no item stands is past the end
pub none-past : {X : Type 0} (xs : List X) (i : ℕ) → slice_get xs i ≡ None → length xs ≤ i
none-past [] i none = omega arith
none-past (x ∷ xs) zero none = absurd (none-some x (sym none))
none-past (x ∷ xs) (suc i) none = omega (arith, none-past xs i none)
