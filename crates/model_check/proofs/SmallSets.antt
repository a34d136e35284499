-- Numbers of at most 7 as sets of states: what holds of all pairs of them is found by looking at each.
use Rattle.std.proofs.Common.{◌≡◌, ℕ, zero, suc, ◌≤◌, ◌==◌, ◌||◌, ◌&&◌, not, nat_le, Bool, true, false, List, [], ◌∷◌, bit_and, bit_or, refl, sym, ◌∙◌, ap, inl, inr, arith, leb-true}
use Rattle.std.proofs.lemmas.Bool.{and_parts}
use Rattle.std.specs.List.{list_all}
use Rattle.partition_model.proofs.Lists.{In}
use Rattle.models.specs.Models.{has_state}

-- the numbers up to 7 are 0 to 7
small-in : (n : ℕ) → n ≤ 7 → In n (0 ∷ 1 ∷ 2 ∷ 3 ∷ 4 ∷ 5 ∷ 6 ∷ 7 ∷ [])
small-in zero l = inl refl
small-in (suc zero) l = inr (inl refl)
small-in (suc (suc zero)) l = inr (inr (inl refl))
small-in (suc (suc (suc zero))) l = inr (inr (inr (inl refl)))
small-in (suc (suc (suc (suc zero)))) l = inr (inr (inr (inr (inl refl))))
small-in (suc (suc (suc (suc (suc zero))))) l = inr (inr (inr (inr (inr (inl refl)))))
small-in (suc (suc (suc (suc (suc (suc zero)))))) l = inr (inr (inr (inr (inr (inr (inl refl))))))
small-in (suc (suc (suc (suc (suc (suc (suc zero))))))) l = inr (inr (inr (inr (inr (inr (inr (inl refl)))))))
small-in (suc (suc (suc (suc (suc (suc (suc (suc n)))))))) l = absurd (omega arith)

-- what is tested of each member of a list holds of one in it
all-at : (p : ℕ → Bool) (x : ℕ) (xs : List ℕ) → list_all p xs ≡ true → In x xs → p x ≡ true
all-at p x [] a i = absurd i
all-at p x (y ∷ ys) a (inl e) = sym (ap p e) ∙ (and_parts (p y) (list_all p ys) a).0
all-at p x (y ∷ ys) a (inr i) = all-at p x ys (and_parts (p y) (list_all p ys) a).1 i

-- the test says yes of each number up to 7
abbrev every : (ℕ → Bool) → Bool
every p = list_all p (0 ∷ 1 ∷ 2 ∷ 3 ∷ 4 ∷ 5 ∷ 6 ∷ 7 ∷ [])

-- what is tested of all pairs of numbers up to 7 holds of each of them
pub at-pair : (t : ℕ → ℕ → Bool) → every (λ a. every (t a)) ≡ true → (a b : ℕ) → a ≤ 7 → b ≤ 7 → t a b ≡ true
at-pair t e a b k l =
    all-at (t a) b (0 ∷ 1 ∷ 2 ∷ 3 ∷ 4 ∷ 5 ∷ 6 ∷ 7 ∷ []) (all-at (λ x. every (t x)) a (0 ∷ 1 ∷ 2 ∷ 3 ∷ 4 ∷ 5 ∷ 6 ∷ 7 ∷ []) e (small-in a k)) (small-in b l)

-- whether two truth values agree
abbrev agree : Bool → Bool → Bool
agree true b = b
agree false b = not b

-- truth values that agree are the same
agree-same : (a b : Bool) → agree a b ≡ true → a ≡ b
agree-same true true e = refl
agree-same true false e = sym e
agree-same false true e = e
agree-same false false e = refl

-- whether two sets, joined bit by bit, are a set that has the states of both
abbrev joins : ℕ → ℕ → Bool
joins a b =
    nat_le (bit_or a b) 7
    && agree (has_state (bit_or a b) 0) (has_state a 0 || has_state b 0)
    && agree (has_state (bit_or a b) 1) (has_state a 1 || has_state b 1)
    && agree (has_state (bit_or a b) 2) (has_state a 2 || has_state b 2)

-- so it is of any two sets
joined : (a b : ℕ) → a ≤ 7 → b ≤ 7 → joins a b ≡ true
joined a b k l = at-pair joins refl a b k l

-- the states of two sets are a set
pub either-label : (a b : ℕ) → a ≤ 7 → b ≤ 7 → bit_or a b ≤ 7
either-label a b k l =
    let t = and_parts _ _ (and_parts _ _ (and_parts _ _ (joined a b k l)).0).0 in
    leb-true (bit_or a b) 7 t.0

-- in the set of both are the states of each
pub either-states : (a b : ℕ) → a ≤ 7 → b ≤ 7 → (s : ℕ) → has_state (bit_or a b) s ≡ (has_state a s || has_state b s)
either-states a b k l zero = agree-same _ _ (and_parts _ _ (and_parts _ _ (and_parts _ _ (joined a b k l)).0).0).1
either-states a b k l (suc zero) = agree-same _ _ (and_parts _ _ (and_parts _ _ (joined a b k l)).0).1
either-states a b k l (suc (suc zero)) = agree-same _ _ (and_parts _ _ (joined a b k l)).1
either-states a b k l (suc (suc (suc s))) = refl

-- whether one truth value holds where another does
abbrev implies : Bool → Bool → Bool
implies a b = not a || b

-- where it is so, the second holds with the first
implies-from : (a b : Bool) → implies a b ≡ true → a ≡ true → b ≡ true
implies-from true b e t = e
implies-from false b e t = absurd (cc t)

-- it is so where the second holds with the first
implies-to : (a b : Bool) → (a ≡ true → b ≡ true) → implies a b ≡ true
implies-to true b f = f refl
implies-to false b f = refl

-- whether each state of one set is in the other
abbrev is_subset : ℕ → ℕ → Bool
is_subset a b =
    implies (has_state a 0) (has_state b 0) && implies (has_state a 1) (has_state b 1)
    && implies (has_state a 2) (has_state b 2)

-- the test of bits tells whether one set is within the other
tells : (a b : ℕ) → a ≤ 7 → b ≤ 7 → (bit_and a b == a) ≡ is_subset a b
tells a b k l = agree-same _ _ (at-pair (λ x y. agree (bit_and x y == x) (is_subset x y)) refl a b k l)

-- where the test of bits says that one set is within the other, the other has each of its states
pub within-states : (a b : ℕ) → a ≤ 7 → b ≤ 7 → (bit_and a b == a) ≡ true → (s : ℕ) → has_state a s ≡ true → has_state b s ≡ true
within-states a b k l e zero h = implies-from _ _ (and_parts _ _ (and_parts _ _ (sym (tells a b k l) ∙ e)).0).0 h
within-states a b k l e (suc zero) h = implies-from _ _ (and_parts _ _ (and_parts _ _ (sym (tells a b k l) ∙ e)).0).1 h
within-states a b k l e (suc (suc zero)) h = implies-from _ _ (and_parts _ _ (sym (tells a b k l) ∙ e)).1 h
within-states a b k l e (suc (suc (suc s))) h = h

-- where a set has each state of another, the test of bits says that this one is within it
pub states-within : (a b : ℕ) → a ≤ 7 → b ≤ 7 → ((s : ℕ) → has_state a s ≡ true → has_state b s ≡ true) → (bit_and a b == a) ≡ true
states-within a b k l f =
    let x : implies (has_state a 0) (has_state b 0) ≡ true = implies-to _ _ (f 0) in
    let y : implies (has_state a 1) (has_state b 1) ≡ true = implies-to _ _ (f 1) in
    let z : implies (has_state a 2) (has_state b 2) ≡ true = implies-to _ _ (f 2) in
    tells a b k l ∙ rw (x, y, z) refl
