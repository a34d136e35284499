-- Lists in which nothing stands twice.
use Rattle.std.proofs.Common.{◌≡◌, ℕ, zero, suc, Bool, true, false, List, [], ◌∷◌, ◌++◌, refl, sym, ap, ◌∙◌, arith, true≢false, Some}
use Rattle.std.proofs.lemmas.Bool.{or_left, or_right, or_parts, or_from, false_from_ne_true}
use Rattle.std.proofs.lemmas.List.Folds.{list_any-append}
use Rattle.std.proofs.lemmas.Option.{same_Some, none-some}
use Rattle.std.specs.Bool.{Decides}
use Rattle.std.specs.List.{slice_get, list_any, position_or_len}
use Rattle.trace_keys.specs.Keys.{AreApart}
use Rattle.trace_keys.proofs.Positions.{position-hit, position-miss}

-- no two are the same after a new one at the end
pub apart-push : {X : Type 0} (same : X → X → Bool) (xs : List X) (x : X) → ((a b : X) → same a b ≡ false → same b a ≡ false)
    → AreApart same xs → list_any (same x) xs ≡ false → AreApart same (xs ++ x ∷ [])
apart-push same [] x swap apart none = (refl, tt)
apart-push same (y ∷ xs) x swap apart none =
    let parts = or_parts (same x y) (list_any (same x) xs) none in (
      list_any-append (same y) xs (x ∷ []) ∙ or_from _ _ apart.0 (or_from _ _ (swap x y parts.0) refl),
      apart-push same xs x swap apart.1 parts.1,
    )

-- and not without the last
pub apart-front : {X : Type 0} (same : X → X → Bool) (xs : List X) (x : X) → AreApart same (xs ++ x ∷ []) → AreApart same xs
apart-front same [] x apart = tt
apart-front same (y ∷ xs) x apart =
    let parts = or_parts (list_any (same y) xs) (list_any (same y) (x ∷ [])) (sym (list_any-append (same y) xs (x ∷ [])) ∙ apart.0) in
    (parts.0, apart-front same xs x apart.1)

hit-any : {X : Type 0} (p : X → Bool) (xs : List X) (i : ℕ) (x : X) → slice_get xs i ≡ Some x → p x ≡ true → list_any p xs ≡ true
hit-any p [] i x at hit = absurd (none-some x at)
hit-any p (y ∷ xs) zero x at hit = or_left _ _ (ap p (same_Some y x at) ∙ hit)
hit-any p (y ∷ xs) (suc i) x at hit = or_right _ _ (hit-any p xs i x at hit)

-- what stands at a place is first met there
pub apart-place : {X : Type 0} (same : X → X → Bool) → ((a b : X) → Decides (same a b) (a ≡ b)) → (xs : List X) (i : ℕ) (x : X)
    → AreApart same xs → slice_get xs i ≡ Some x → position_or_len (same x) xs ≡ i
apart-place same decides [] i x apart at = absurd (none-some x at)
apart-place same decides (y ∷ xs) zero x apart at = position-hit (same x) y xs ((decides x y).1 (sym (same_Some y x at)))
apart-place same decides (y ∷ xs) (suc i) x apart at =
    let miss : same x y ≡ false =
    false_from_ne_true (same x y) (λ hit. true≢false (sym (hit-any (same y) xs i x at ((decides y x).1 (sym ((decides x y).0 hit)))) ∙ apart.0)) in
    omega (arith, position-miss (same x) y xs miss, apart-place same decides xs i x apart.1 at)
