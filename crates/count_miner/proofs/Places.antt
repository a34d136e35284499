-- Counts at the places of types.
use Rattle.std.proofs.Common.{◌≡◌, ◌≢◌, ℕ, ◌+◌, ◌-◌, ◌<◌, true, false, ◌&&◌, Bool, List, length, get_or, set, cond, eqb, refl, sym, ap, ◌∙◌, ⊎_elim, arith}
use Rattle.std.proofs.lemmas.Bool.{and_from, and_left, cases_eq, ne_eqb}
use Rattle.std.proofs.lemmas.Bool.Decides.{Decides-eqb}
use Rattle.std.proofs.lemmas.List.{get_or-set_same, get_or-set_other}
use mir.Val.{bool_byte}

-- a flag as a number
pub one-or-none : (t : Bool) → bool_byte t ≡ cond t 1 0
one-or-none true = refl
one-or-none false = refl

-- the test of a place is the test of its type
pub same-test : (a x place : ℕ) → x ≡ place + 2 → eqb a place ≡ eqb x (a + 2)
same-test a x place is = ⊎_elim
    (λ (here : a ≡ place). (Decides-eqb a place).1 here ∙ sym ((Decides-eqb x (a + 2)).1 (omega arith)))
    (λ (other : a ≢ place). ne_eqb a place other ∙ sym (ne_eqb x (a + 2) (λ same. other (omega arith))))
    (cases_eq a place)

-- the test of the place is that of the type, the other way round
pub place-test : (b x place : ℕ) → x ≡ place + 2 → eqb place b ≡ eqb x (b + 2)
place-test b x place is = ⊎_elim
    (λ (here : place ≡ b). (Decides-eqb place b).1 here ∙ sym ((Decides-eqb x (b + 2)).1 (omega arith)))
    (λ (other : place ≢ b). ne_eqb place b other ∙ sym (ne_eqb x (b + 2) (λ same. other (omega arith))))
    (cases_eq place b)

-- what stands after a write at a place
pub set-at : (xs : List ℕ) (p v k : ℕ) → p < length xs → get_or (set xs p v) k 0 ≡ cond (eqb p k) v (get_or xs k 0)
set-at xs p v k inside = ⊎_elim
    (λ (here : p ≡ k). ap (λ n. get_or (set xs p v) n 0) (sym here) ∙ (get_or-set_same xs p v 0 inside ∙ ap (λ t. cond t v (get_or xs k 0)) (sym ((Decides-eqb p k).1 here))))
    (λ (other : p ≢ k). get_or-set_other xs p k v 0 (λ same. other (sym same)) ∙ ap (λ t. cond t v (get_or xs k 0)) (sym (ne_eqb p k other)))
    (cases_eq p k)

-- one count more at a place
pub more-at : (xs : List ℕ) (p k : ℕ) → p < length xs → get_or (set xs p (get_or xs p 0 + 1)) k 0 ≡ get_or xs k 0 + cond (eqb p k) 1 0
more-at xs p k inside = set-at xs p (get_or xs p 0 + 1) k inside ∙ ⊎_elim
    (λ (here : p ≡ k). ap (λ t. cond t (get_or xs p 0 + 1) (get_or xs k 0)) ((Decides-eqb p k).1 here)
    ∙ (ap (λ n. get_or xs n 0 + 1) here ∙ ap (λ t. get_or xs k 0 + cond t 1 0) (sym ((Decides-eqb p k).1 here))))
    (λ (other : p ≢ k). ap (λ t. cond t (get_or xs p 0 + 1) (get_or xs k 0)) (ne_eqb p k other)
    ∙ (omega arith ∙ ap (λ t. get_or xs k 0 + cond t 1 0) (sym (ne_eqb p k other))))
    (cases_eq p k)

-- the counts of the place of an event that is the first of its type are equal
pub first-only : (b r n : ℕ) (left all : List ℕ) → get_or left r 0 ≡ get_or all r 0 → cond (eqb b r) n 0 ≡ cond (eqb b r && eqb (get_or left b 0) (get_or all b 0)) n 0
first-only b r n left all equal = ⊎_elim
    (λ (here : b ≡ r).
    let hit = (Decides-eqb b r).1 here in
    let too : eqb (get_or left b 0) (get_or all b 0) ≡ true = (Decides-eqb _ _).1 (ap (λ k. get_or left k 0) here ∙ (equal ∙ ap (λ k. get_or all k 0) (sym here))) in
    ap (λ t. cond t n 0) (hit ∙ sym (and_from _ _ hit too)))
    (λ (other : b ≢ r).
    let miss = ne_eqb b r other in
    ap (λ t. cond t n 0) (miss ∙ sym (and_left _ _ miss)))
    (cases_eq b r)

abbrev one-if : Bool → ℕ
one-if t = cond t 1 0

-- one event less is left at its place
pub one-less : (left : List ℕ) (x place a n : ℕ) → x ≡ place + 2 → place < length left → get_or left a 0 ≡ cond (eqb x (a + 2)) 1 0 + n → get_or (set left place (get_or left place 0 - 1)) a 0 ≡ n
one-less left x place a n is inside counted = set-at left place (get_or left place 0 - 1) a inside ∙ ⊎_elim
    (λ (here : place ≡ a).
    let hit : eqb x (a + 2) ≡ true = (Decides-eqb x (a + 2)).1 (omega arith) in
    ap (λ t. cond t (get_or left place 0 - 1) (get_or left a 0)) ((Decides-eqb place a).1 here)
    ∙ omega (arith, counted, ap one-if hit, ap (λ k. get_or left k 0) here))
    (λ (other : place ≢ a).
    let miss : eqb x (a + 2) ≡ false = ne_eqb x (a + 2) (λ same. other (omega arith)) in
    ap (λ t. cond t (get_or left place 0 - 1) (get_or left a 0)) (ne_eqb place a other) ∙ omega (arith, counted, ap one-if miss))
    (cases_eq place a)

-- where the counts of its place differ, an event is not the first of its type
pub not-first : (b x place n m : ℕ) (left all : List ℕ) → x ≡ place + 2 → get_or left place 0 ≢ get_or all place 0 → n ≡ n + cond (eqb x (b + 2) && eqb (get_or left b 0) (get_or all b 0)) m 0
not-first b x place n m left all is differ = ⊎_elim
    (λ (here : b ≡ place).
    let miss : eqb (get_or left b 0) (get_or all b 0) ≡ false = ne_eqb (get_or left b 0) (get_or all b 0) (λ same. differ (ap (λ k. get_or left k 0) (sym here) ∙ (same ∙ ap (λ k. get_or all k 0) here))) in
    let hit : eqb x (b + 2) ≡ true = (Decides-eqb x (b + 2)).1 (omega arith) in
    omega arith ∙ (ap (λ t. n + cond t m 0) (sym miss) ∙ ap (λ t. n + cond (t && eqb (get_or left b 0) (get_or all b 0)) m 0) (sym hit)))
    (λ (other : b ≢ place).
    let miss : eqb x (b + 2) ≡ false = ne_eqb x (b + 2) (λ same. other (omega arith)) in
    omega arith ∙ ap (λ t. n + cond (t && eqb (get_or left b 0) (get_or all b 0)) m 0) (sym miss))
    (cases_eq b place)
