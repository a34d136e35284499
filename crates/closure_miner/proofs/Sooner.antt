-- Which of two types comes sooner, by how many events there are from the next one of each to the end.
use Rattle.std.proofs.Common.{◌≡◌, ℕ, suc, ◌≤◌, Bool, true, false, ◌||◌, List, [], ◌∷◌, length, cond, eqb, refl, ap, ◌∙◌, arith}
use Rattle.std.proofs.Math.Dec.{ltb}
use Rattle.std.proofs.lemmas.Bool.{le-ltb, lt-ltb, ne_eqb}
use Rattle.invariants.specs.Holds.{always_preceded}

-- how many events there are from the first event of a type to the end
abbrev pub rest_from : ℕ → List ℕ → ℕ
rest_from t [] = 0
rest_from t (x ∷ word) = cond (eqb x t) (suc (length word)) (rest_from t word)

-- no more than there are
rest-le : (t : ℕ) (word : List ℕ) → rest_from t word ≤ length word
rest-le t [] = omega arith
rest-le t (x ∷ word) = within (eqb x t) (rest_from t word) (length word) (rest-le t word)
  where
    within : (s : Bool) (r n : ℕ) → r ≤ n → cond s (suc n) r ≤ suc n
    within true r n h = omega arith
    within false r n h = omega (arith, h)

-- a truth value or true is true
or-on : (t : Bool) → (t || true) ≡ true
or-on true = refl
or-on false = refl

-- with some events from its next one to the end, no more than from that of another, it does not come sooner
later : (n other : ℕ) → other ≤ suc n → (eqb (suc n) 0 || ltb (suc n) other) ≡ false
later n other few = ap (λ t. t || ltb (suc n) other) (ne_eqb (suc n) 0 (λ e. absurd (omega (arith, e)))) ∙ le-ltb (suc n) other few

-- one event more, which is an a, a b or neither
sooner-more : (s t p : Bool) (n next other : ℕ) → next ≤ n → other ≤ n → (eqb next 0 || ltb next other) ≡ p
    → (eqb (cond s (suc n) next) 0 || ltb (cond s (suc n) next) (cond t (suc n) other)) ≡ cond s false (cond t true p)
sooner-more true true p n next other in_next in_other h = later n (suc n) (omega arith)
sooner-more true false p n next other in_next in_other h = later n other (omega (arith, in_other))
sooner-more false true p n next other in_next in_other h = ap (λ t. eqb next 0 || t) (lt-ltb next (suc n) (omega (arith, in_next))) ∙ or-on (eqb next 0)
sooner-more false false p n next other in_next in_other h = h

-- b comes before the next a where there is no a, or where there are more events from the next b on
pub sooner : (a b : ℕ) (word : List ℕ) → (eqb (rest_from a word) 0 || ltb (rest_from a word) (rest_from b word)) ≡ always_preceded b a word
sooner a b [] = refl
sooner a b (x ∷ word) =
    sooner-more (eqb x a) (eqb x b) (always_preceded b a word) (length word) (rest_from a word) (rest_from b word) (rest-le a word) (rest-le b word) (sooner a b word)
