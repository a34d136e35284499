-- Lists in which each element comes before all later ones.
use Rattle.std.proofs.Common.{◌≡◌, ℕ, zero, suc, List, [], ◌∷◌, slice_get, Some, sym, ◌∙◌, refl, ap, ap₂, subst, inl, inr, arith}
use Rattle.partition_model.specs.Coarsening.{PairBefore}
use Rattle.partition_model.proofs.Lists.{In}

-- each element comes before all later ones
abbrev pub Sorted : {X : Type 0} → (X → X → Type 0) → List X → Type 0
Sorted B [] = Unit {0}
Sorted {X} B (x ∷ xs) = ((y : X) → In y xs → B x y) × Sorted B xs

-- sorted lists with the same elements are equal
pub same-lists : {X : Type 0} (B : X → X → Type 0) → ((x y : X) → B x y → B y x → ⊥) → (xs ys : List X) → Sorted B xs → Sorted B ys
    → ((z : X) → In z xs → In z ys) → ((z : X) → In z ys → In z xs) → xs ≡ ys
same-lists B asym [] [] s t f g = refl
same-lists B asym [] (y ∷ ys) s t f g = absurd (g y (inl refl))
same-lists B asym (x ∷ xs) [] s t f g = absurd (f x (inl refl))
same-lists {X} B asym (x ∷ xs) (y ∷ ys) s t f g =
    ap₂ (λ (u : X) (us : List X). u ∷ us) same (same-lists B asym xs ys s.1 t.1 front back)
  where
    same : x ≡ y
    same = elim (f x (inl refl)) [
      | inl e ↦ sym e
      | inr i ↦ elim (g y (inl refl)) [
        | inl e ↦ e
        | inr j ↦ absurd (asym x y (s.0 y j) (t.0 x i))
      ]
    ]

    front : (z : X) → In z xs → In z ys
    front z i = elim (f z (inr i)) [
      | inl e ↦ absurd (let b : B x x = subst (λ (u : X). B x u) (sym e ∙ sym same) (s.0 z i) in asym x x b b)
      | inr j ↦ j
    ]

    back : (z : X) → In z ys → In z xs
    back z i = elim (g z (inr i)) [
      | inl e ↦ absurd (let b : B y y = subst (λ (u : X). B y u) (sym e ∙ same) (t.0 z i) in asym y y b b)
      | inr j ↦ j
    ]

-- no pair is both before and behind another
pub pair-asym : (p q r s : ℕ) → PairBefore p q r s → PairBefore r s p q → ⊥
pair-asym p q r s (inl a) (inl b) = omega (arith, a, b)
pair-asym p q r s (inl a) (inr b) = omega (arith, a, b.0)
pair-asym p q r s (inr a) (inl b) = omega (arith, a.0, b)
pair-asym p q r s (inr a) (inr b) = omega (arith, a.1, b.1)

-- what is before a pair is before all that this pair is before
pub pair-next : (p q r s t u : ℕ) → PairBefore p q r s → PairBefore r s t u → PairBefore p q t u
pair-next p q r s t u (inl a) (inl b) = inl (omega (arith, a, b))
pair-next p q r s t u (inl a) (inr b) = inl (omega (arith, a, b.0))
pair-next p q r s t u (inr a) (inl b) = inl (omega (arith, a.0, b))
pair-next p q r s t u (inr a) (inr b) = inr (a.0 ∙ b.0, omega (arith, a.1, b.1))

-- what stands at a place is an element
pub get-In : {X : Type 0} (xs : List X) (k : ℕ) (x : X) → slice_get xs k ≡ Some x → In x xs
get-In [] k x e = absurd (cc)
get-In (y ∷ xs) zero x e = inl (cc)
get-In (y ∷ xs) (suc k) x e = inr (get-In xs k x e)

-- an element has a place
pub In-get : {X : Type 0} (x : X) (xs : List X) → In x xs → (k : ℕ) × (slice_get xs k ≡ Some x)
In-get x [] i = absurd i
In-get {X} x (y ∷ xs) i = elim i [
  | inl e ↦ (0, ap (λ (u : X). Some u) e)
  | inr j ↦ (let r : (k : ℕ) × (slice_get xs k ≡ Some x) = In-get x xs j in (suc r.0, r.1))
]
