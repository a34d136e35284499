-- What stands between an event and the next of its type.
use Rattle.std.proofs.Common.{◌≡◌, ℕ, suc, ◌+◌, ◌≤◌, Bool, true, false, not, ◌&&◌, ◌||◌, List, [], ◌∷◌, ◌++◌, length, cond, eqb, refl, sym, ap, ◌∙◌, arith}
use Rattle.std.proofs.Math.Dec.{ltb}
use Rattle.std.proofs.lemmas.Bool.{ne_eqb, or_parts, and_right, le-ltb, lt-ltb}
use Rattle.std.specs.List.{sum_by}
use Rattle.invariants.specs.Holds.{occurs, always_preceded, interrupted}
use Rattle.count_miner.specs.Counts.{followed_count, interrupted_count, total_length}
use Rattle.count_miner.proofs.Sums.{count-le, split-eqb, preceded-end, sums-le}

-- how many events there are from the first event of a type to the end
abbrev pub rest_from : ℕ → List ℕ → ℕ
rest_from t [] = 0
rest_from t (x ∷ word) = cond (eqb x t) (suc (length word)) (rest_from t word)

-- no more than there are
pub rest-le : (t : ℕ) (word : List ℕ) → rest_from t word ≤ length word
rest-le t [] = omega arith
rest-le t (x ∷ word) = within (eqb x t) (rest_from t word) (length word) (rest-le t word)
  where
    within : (s : Bool) (r n : ℕ) → r ≤ n → cond s (suc n) r ≤ suc n
    within true r n h = omega arith
    within false r n h = omega (arith, h)

-- there are some exactly where the type occurs
rest-some : (t : ℕ) (word : List ℕ) → ltb 0 (rest_from t word) ≡ occurs t word
rest-some t [] = refl
rest-some t (x ∷ word) = some (eqb x t) (occurs t word) (rest_from t word) (length word) (rest-some t word)
  where
    some : (s o : Bool) (r n : ℕ) → ltb 0 r ≡ o → ltb 0 (cond s (suc n) r) ≡ (s || o)
    some true o r n h = lt-ltb 0 (suc n) (omega arith)
    some false o r n h = h

-- one event more, which is an a, a b or neither
sooner-more : (s t o p : Bool) (n next other : ℕ) → next ≤ n → other ≤ n → ltb 0 next ≡ o → (ltb 0 next && ltb next other) ≡ (o && p)
    → (ltb 0 (cond s (suc n) next) && ltb (cond s (suc n) next) (cond t (suc n) other)) ≡ ((s || o) && cond s false (cond t true p))
sooner-more true true o p n next other in_next in_other some h = and_right (ltb 0 (suc n)) (ltb (suc n) (suc n)) (le-ltb (suc n) (suc n) (omega arith))
sooner-more true false o p n next other in_next in_other some h = and_right (ltb 0 (suc n)) (ltb (suc n) other) (le-ltb (suc n) other (omega (arith, in_other)))
sooner-more false true o p n next other in_next in_other some h =
    ap (λ t. ltb 0 next && t) (lt-ltb next (suc n) (omega (arith, in_next))) ∙ ap (λ t. t && true) some
sooner-more false false o p n next other in_next in_other some h = h

-- there is a next a with a b before it exactly where there are more events from the next b on
pub sooner : (a b : ℕ) (word : List ℕ) → (ltb 0 (rest_from a word) && ltb (rest_from a word) (rest_from b word)) ≡ (occurs a word && always_preceded b a word)
sooner a b [] = refl
sooner a b (x ∷ word) =
    sooner-more (eqb x a) (eqb x b) (occurs a word) (always_preceded b a word) (length word) (rest_from a word) (rest_from b word)
    (rest-le a word) (rest-le b word) (rest-some a word) (sooner a b word)

-- where there is no a, a b comes before each
none-preceded : (a b : ℕ) (word : List ℕ) → occurs a word ≡ false → always_preceded b a word ≡ true
none-preceded a b [] none = refl
none-preceded a b (x ∷ word) none =
    let parts = or_parts (eqb x a) (occurs a word) none in
    ap (λ t. cond t false (cond (eqb x b) true (always_preceded b a word))) parts.0 ∙ either (eqb x b) (always_preceded b a word) (none-preceded a b word parts.1)
  where
    either : (t p : Bool) → p ≡ true → cond t true p ≡ true
    either true p h = refl
    either false p h = h

-- no more gaps of a have a b than there are
pub gaps-le : (a b : ℕ) (word : List ℕ) → interrupted_count a b word ≤ followed_count a a word
gaps-le a b [] = omega arith
gaps-le a b (x ∷ word) = omega (arith, fewer (eqb x a) (occurs a word) (always_preceded b a word), gaps-le a b word)
  where
    fewer : (s o p : Bool) → cond (s && (o && p)) 1 0 ≤ cond (s && o) 1 0
    fewer true true true = omega arith
    fewer true true false = omega arith
    fewer true false p = omega arith
    fewer false o p = omega arith

-- with one event more as many gaps have a b as there are, where it begins no gap or one that has a b
gaps-more : (s o p : Bool) (n m : ℕ) → n ≤ m → (o ≡ false → p ≡ true) → eqb (cond (s && (o && p)) 1 0 + n) (cond (s && o) 1 0 + m) ≡ ((not s || p) && eqb n m)
gaps-more true true true n m below none = split-eqb 1 1 n m (omega arith) below
gaps-more true true false n m below none = ne_eqb (0 + n) (1 + m) (λ e. absurd (omega (arith, e, below)))
gaps-more true false p n m below none = split-eqb 0 0 n m (omega arith) below ∙ ap (λ t. t && eqb n m) (sym (none refl))
gaps-more false o p n m below none = split-eqb 0 0 n m (omega arith) below

-- as many gaps of a have a b as there are exactly where each does
gaps-all : (a b : ℕ) (word : List ℕ) → eqb (interrupted_count a b word) (followed_count a a word) ≡ interrupted a b word
gaps-all a b [] = refl
gaps-all a b (x ∷ word) =
    gaps-more (eqb x a) (occurs a word) (always_preceded b a word) (interrupted_count a b word) (followed_count a a word) (gaps-le a b word) (none-preceded a b word)
    ∙ ap (λ t. (not (eqb x a) || always_preceded b a word) && t) (gaps-all a b word)

-- TERMINAL at the end of a word does not change whether each gap of a has a b
gaps-end : (a b : ℕ) (word : List ℕ) → 2 ≤ a → 2 ≤ b → interrupted a b (word ++ 1 ∷ []) ≡ interrupted a b word
gaps-end a b [] low high = ap (λ t. (not t || true) && true) (ne_eqb 1 a (λ e. absurd (omega (arith, e, low))))
gaps-end a b (x ∷ word) low high =
    ap (λ p. (not (eqb x a) || p) && interrupted a b (word ++ 1 ∷ [])) (preceded-end b a word high low)
    ∙ ap (λ t. (not (eqb x a) || always_preceded b a word) && t) (gaps-end a b word low high)

-- each gap of a has a b exactly where a is interrupted by b
pub gaps-hold : (a b : ℕ) (word : List ℕ) → 2 ≤ a → 2 ≤ b → eqb (interrupted_count a b word) (followed_count a a word) ≡ interrupted a b (0 ∷ word ++ 1 ∷ [])
gaps-hold a b word low high =
    gaps-all a b word ∙ (sym (gaps-end a b word low high)
    ∙ sym (ap (λ t. (not t || always_preceded b a (word ++ 1 ∷ [])) && interrupted a b (word ++ 1 ∷ [])) (ne_eqb 0 a (λ e. absurd (omega (arith, e, low))))))

-- no more gaps have a b than there are events
pub gaps-within : (a b : ℕ) (word : List ℕ) → interrupted_count a b word ≤ length word
gaps-within a b word = omega (arith, gaps-le a b word, count-le a a word)

-- no count of gaps is above the number of all events
pub gaps-fit : (a b : ℕ) (words : List (List ℕ)) → sum_by (interrupted_count a b) words ≤ total_length words
gaps-fit a b words = sums-le (interrupted_count a b) (λ w. length w) (gaps-within a b) words
