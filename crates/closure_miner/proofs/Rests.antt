-- What a part of a word tells of all of it.
use Rattle.std.proofs.Common.{◌≡◌, ℕ, Bool, true, false, not, ◌&&◌, ◌||◌, List, [], ◌∷◌, ◌++◌, cond, eqb, refl, sym, ap, ap₂, ◌∙◌, true≢false}
use Rattle.invariants.specs.Holds.{occurs, always_followed, never_followed, always_preceded, interrupted}

-- a truth value or true is true
or-true : (x : Bool) → (x || true) ≡ true
or-true true = refl
or-true false = refl

-- a truth value and false is false
and-false : (x : Bool) → (x && false) ≡ false
and-false true = refl
and-false false = refl

-- a type that occurs behind occurs in the whole
pub occurs-behind : (b : ℕ) (front behind : List ℕ) → occurs b behind ≡ true → occurs b (front ++ behind) ≡ true
occurs-behind b [] behind some = some
occurs-behind b (x ∷ front) behind some = ap (λ o. eqb x b || o) (occurs-behind b front behind some) ∙ or-true (eqb x b)

-- each event of the front is followed by a type that occurs behind
pub followed-behind : (a b : ℕ) (front behind : List ℕ) → occurs b behind ≡ true → always_followed a b (front ++ behind) ≡ always_followed a b behind
followed-behind a b [] behind some = refl
followed-behind a b (x ∷ front) behind some =
    ap₂ (λ o t. (not (eqb x a) || o) && t) (occurs-behind b front behind some) (followed-behind a b front behind some)
    ∙ ap (λ o. o && always_followed a b behind) (or-true (not (eqb x a)))

-- where some a is followed by b behind, some is in the whole
pub never-behind : (a b : ℕ) (front behind : List ℕ) → never_followed a b behind ≡ false → never_followed a b (front ++ behind) ≡ false
never-behind a b [] behind unless = unless
never-behind a b (x ∷ front) behind unless =
    ap (λ t. not (eqb x a && occurs b (front ++ behind)) && t) (never-behind a b front behind unless) ∙ and-false (not (eqb x a && occurs b (front ++ behind)))

-- where some a behind is not interrupted by b, some is not in the whole
pub between-behind : (a b : ℕ) (front behind : List ℕ) → interrupted a b behind ≡ false → interrupted a b (front ++ behind) ≡ false
between-behind a b [] behind unless = unless
between-behind a b (x ∷ front) behind unless =
    ap (λ t. (not (eqb x a) || always_preceded b a (front ++ behind)) && t) (between-behind a b front behind unless) ∙ and-false (not (eqb x a) || always_preceded b a (front ++ behind))

-- the first event of a front, and whether what comes behind can matter
front-step : (s t o p q : Bool) → (t || o) ≡ true → (o ≡ true → p ≡ q) → cond s false (cond t true p) ≡ cond s false (cond t true q)
front-step true t o p q some same = refl
front-step false true o p q some same = refl
front-step false false o p q some same = same some

-- where a occurs in the front, what comes behind is preceded by it
pub preceded-front : (a b : ℕ) (front behind : List ℕ) → occurs a front ≡ true → always_preceded a b (front ++ behind) ≡ always_preceded a b front
preceded-front a b [] behind some = absurd (true≢false (sym some))
preceded-front a b (x ∷ front) behind some =
    front-step (eqb x b) (eqb x a) (occurs a front) (always_preceded a b (front ++ behind)) (always_preceded a b front) some (preceded-front a b front behind)

-- of two truth values that do not both hold, the second may be replaced by one that fails where it fails
pub still-false : (x t u : Bool) → (x && t) ≡ false → (t ≡ false → u ≡ false) → (x && u) ≡ false
still-false true t u one fails = fails one
still-false false t u one fails = refl
