-- The candidates ascend by their first types, and then by their second types and their kinds.
use Rattle.std.proofs.Common.{◌≡◌, ℕ, zero, suc, ◌+◌, ◌-◌, ◌*◌, ◌<◌, ◌≤◌, Bool, true, false, cond, List, [], ◌∷◌, ◌++◌, map, length, get_or, not, Some, eqb, refl, sym, ap, ap₂, subst, ◌∙◌, arith, inl, inr}
use Rattle.std.specs.Prelude.{⊤}
use Rattle.std.specs.List.{AllByRecursion, flat_map, range_with_len, slice_get}
use Rattle.invariants.specs.Candidates.{invariant, types, of_pair, of_first, candidates_for}
use Rattle.invariants.specs.declared.Kind.TheVariants.{AF, NF, AP, IB}
use Rattle.invariants.specs.declared.Kinds.{Kinds}
use Rattle.invariants.specs.declared.Kinds.TheVariants.{Three, Four}
use Rattle.invariants.specs.declared.Invariant.{Invariant}
use Rattle.model_shape.specs.Ascending.{CandidateBefore}
use Rattle.model_file.specs.Rules.{pair_less}
use Rattle.model_file.specs.Lists.{kind_number, invariant_key, falls}
use Rattle.model_file.proofs.Passing.{pairs-take}

-- the key of one is below that of the other
abbrev Less : Invariant → Invariant → Type 0
Less i j = pair_less (invariant_key i) (invariant_key j) ≡ true

by-first : (i j : Invariant) → i.a < j.a → Less i j
by-first i j h = pairs-take i.a (4 * i.b + kind_number i.kind) j.a (4 * j.b + kind_number j.kind) (inl h)

by-second : (i j : Invariant) → i.a ≡ j.a → 4 * i.b + kind_number i.kind < 4 * j.b + kind_number j.kind → Less i j
by-second i j same h = pairs-take i.a (4 * i.b + kind_number i.kind) j.a (4 * j.b + kind_number j.kind) (inr (same, h))

-- ---- lists in which each is below all later ones

abbrev Rises : List Invariant → Type 0
Rises [] = ⊤
Rises (i ∷ is) = AllByRecursion (Less i) is × Rises is

-- each of the first list is below each of the second
abbrev Below : List Invariant → List Invariant → Type 0
Below is js = AllByRecursion (λ i. AllByRecursion (Less i) js) is

all-append : (P : Invariant → Type 0) (is js : List Invariant) → AllByRecursion P is → AllByRecursion P js → AllByRecursion P (is ++ js)
all-append P [] js p q = q
all-append P (i ∷ is) js p q = (p.0, all-append P is js p.1 q)

all-flat : (P : Invariant → Type 0) (f : ℕ → List Invariant) (s n : ℕ) → ((u : ℕ) → s ≤ u → AllByRecursion P (f u)) → AllByRecursion P (flat_map f (range_with_len s n))
all-flat P f s zero h = tt
all-flat P f s (suc n) h = all-append P (f s) (flat_map f (range_with_len (s + 1) n)) (h s (omega arith)) (all-flat P f (s + 1) n (λ u low. h u (omega (arith, low))))

rises-append : (is js : List Invariant) → Rises is → Rises js → Below is js → Rises (is ++ js)
rises-append [] js p q b = q
rises-append (i ∷ is) js p q b = (all-append (Less i) is js p.0 b.0, rises-append is js p.1 q b.1)

below-flat : (is : List Invariant) (f : ℕ → List Invariant) (s n : ℕ) → ((u : ℕ) → s ≤ u → Below is (f u)) → Below is (flat_map f (range_with_len s n))
below-flat [] f s n h = tt
below-flat (i ∷ is) f s n h = (all-flat (Less i) f s n (λ u low. (h u low).0), below-flat is f s n (λ u low. (h u low).1))

rises-flat : (f : ℕ → List Invariant) → ((t : ℕ) → Rises (f t)) → ((t u : ℕ) → t < u → Below (f t) (f u)) → (s n : ℕ) → Rises (flat_map f (range_with_len s n))
rises-flat f each apart s zero = tt
rises-flat f each apart s (suc n) =
    rises-append (f s) (flat_map f (range_with_len (s + 1) n)) (each s) (rises-flat f each apart (s + 1) n)
    (below-flat (f s) f (s + 1) n (λ u low. apart s u (omega (arith, low))))

-- those with P are below those with Q
all-below : (P Q : Invariant → Type 0) → ((i j : Invariant) → P i → Q j → Less i j) → (is js : List Invariant) → AllByRecursion P is → AllByRecursion Q js → Below is js
all-below P Q less [] js p q = tt
all-below P Q less (i ∷ is) js p q = (later js q, all-below P Q less is js p.1 q)
  where
    later : (js : List Invariant) → AllByRecursion Q js → AllByRecursion (Less i) js
    later [] q = tt
    later (j ∷ js) q = (less i j p.0 q.0, later js q.1)

all-weaker : (P Q : Invariant → Type 0) → ((i : Invariant) → P i → Q i) → (is : List Invariant) → AllByRecursion P is → AllByRecursion Q is
all-weaker P Q h [] p = tt
all-weaker P Q h (i ∷ is) p = (h i p.0, all-weaker P Q h is p.1)

-- ---- of two types

abbrev Of : ℕ → ℕ → Invariant → Type 0
Of a b i = (i.a ≡ a) × (4 * b ≤ 4 * i.b + kind_number i.kind) × (4 * i.b + kind_number i.kind < 4 * b + 4)

own-of : (a b : ℕ) (same : Bool) → AllByRecursion (Of a b) (cond same [] (invariant IB a b ∷ []))
own-of a b true = tt
own-of a b false = ((refl, omega arith, omega arith), tt)

pair-of : (kinds : Kinds) (a b : ℕ) → AllByRecursion (Of a b) (of_pair kinds a b)
pair-of Three a b = ((refl, omega arith, omega arith), ((refl, omega arith, omega arith), ((refl, omega arith, omega arith), tt)))
pair-of Four a b = ((refl, omega arith, omega arith), ((refl, omega arith, omega arith), ((refl, omega arith, omega arith), own-of a b (eqb a b))))

own-rises : (a b : ℕ) (same : Bool) → Rises (invariant AF a b ∷ invariant NF a b ∷ invariant AP a b ∷ cond same [] (invariant IB a b ∷ []))
own-rises a b true =
    let f = λ (i j : Invariant). by-second i j in (
      (f (invariant AF a b) (invariant NF a b) refl (omega arith), (f (invariant AF a b) (invariant AP a b) refl (omega arith), tt)),
      ((f (invariant NF a b) (invariant AP a b) refl (omega arith), tt), (tt, tt)),
    )
own-rises a b false =
    let f = λ (i j : Invariant). by-second i j in (
      (f (invariant AF a b) (invariant NF a b) refl (omega arith), (f (invariant AF a b) (invariant AP a b) refl (omega arith), (f (invariant AF a b) (invariant IB a b) refl (omega arith), tt))),
      ((f (invariant NF a b) (invariant AP a b) refl (omega arith), (f (invariant NF a b) (invariant IB a b) refl (omega arith), tt)), ((f (invariant AP a b) (invariant IB a b) refl (omega arith), tt), (tt, tt))),
    )

pair-rises : (kinds : Kinds) (a b : ℕ) → Rises (of_pair kinds a b)
pair-rises Three a b = own-rises a b true
pair-rises Four a b = own-rises a b (eqb a b)

-- ---- of a first type

row-rises : (kinds : Kinds) (count a : ℕ) → Rises (of_first kinds count a)
row-rises kinds count a =
    rises-flat (of_pair kinds a) (pair-rises kinds a)
    (λ t u low. all-below (Of a t) (Of a u) (λ i j p q. by-second i j (p.0 ∙ sym q.0) (omega (arith, low, p.2, q.1))) (of_pair kinds a t) (of_pair kinds a u) (pair-of kinds a t) (pair-of kinds a u)) 2 count

row-of : (kinds : Kinds) (count a : ℕ) → AllByRecursion (λ i. i.a ≡ a) (of_first kinds count a)
row-of kinds count a = all-flat (λ i. i.a ≡ a) (of_pair kinds a) 2 count (λ u low. all-weaker (Of a u) (λ i. i.a ≡ a) (λ i p. p.0) (of_pair kinds a u) (pair-of kinds a u))

-- ---- all

first-of : (s n : ℕ) → AllByRecursion (λ i. i.a ≡ 0) (map (invariant AF 0) (range_with_len s n))
first-of s zero = tt
first-of s (suc n) = (refl, first-of (s + 1) n)

first-after : (b s n : ℕ) → b < s → AllByRecursion (Less (invariant AF 0 b)) (map (invariant AF 0) (range_with_len s n))
first-after b s zero low = tt
first-after b s (suc n) low = (by-second (invariant AF 0 b) (invariant AF 0 s) refl (omega (arith, low)), first-after b (s + 1) n (omega (arith, low)))

first-rises : (s n : ℕ) → Rises (map (invariant AF 0) (range_with_len s n))
first-rises s zero = tt
first-rises s (suc n) = (first-after s (s + 1) n (omega arith), first-rises (s + 1) n)

candidates-rise : (kinds : Kinds) (count : ℕ) → Rises (candidates_for kinds count)
candidates-rise kinds count =
    rises-append (map (invariant AF 0) (types count)) (flat_map (of_first kinds count) (types count)) (first-rises 2 count)
    (rises-flat (of_first kinds count) (row-rises kinds count)
    (λ t u low. all-below (λ i. i.a ≡ t) (λ i. i.a ≡ u) (λ i j p q. by-first i j (omega (arith, low, p, q))) (of_first kinds count t) (of_first kinds count u) (row-of kinds count t) (row-of kinds count u)) 2 count)
    (below-flat (map (invariant AF 0) (types count)) (of_first kinds count) 2 count
    (λ u low. all-below (λ i. i.a ≡ 0) (λ i. i.a ≡ u) (λ i j p q. by-first i j (omega (arith, low, p, q))) (map (invariant AF 0) (types count)) (of_first kinds count u) (first-of 2 count) (row-of kinds count u)))

later-at : (i : Invariant) (is : List Invariant) (n : ℕ) (j : Invariant) → AllByRecursion (Less i) is → slice_get is n ≡ Some j → Less i j
later-at i [] n j all at = absurd cc
later-at i (k ∷ is) zero j all at = let same : k ≡ j = cc in subst (Less i) same all.0
later-at i (k ∷ is) (suc n) j all at = later-at i is n j all.1 at

rises-at : (is : List Invariant) (m n : ℕ) (i j : Invariant) → Rises is → slice_get is m ≡ Some i → slice_get is n ≡ Some j → m < n → Less i j
rises-at [] m n i j rise at_m at_n low = absurd cc
rises-at (k ∷ is) zero zero i j rise at_m at_n low = absurd (omega (arith, low))
rises-at (k ∷ is) zero (suc n) i j rise at_m at_n low = let same : k ≡ i = cc in subst (λ x. Less x j) same (later-at k is n j rise.0 at_n)
rises-at (k ∷ is) (suc m) zero i j rise at_m at_n low = absurd (omega (arith, low))
rises-at (k ∷ is) (suc m) (suc n) i j rise at_m at_n low = rises-at is m n i j rise.1 at_m at_n (omega (arith, low))

-- of two candidates the earlier one has the smaller key
pub earlier-is-less : (kinds : Kinds) (count : ℕ) (i j : Invariant) → CandidateBefore kinds count i j → pair_less (invariant_key i) (invariant_key j) ≡ true
earlier-is-less kinds count i j c = rises-at (candidates_for kinds count) c.place c.later i j (candidates-rise kinds count) c.here c.there c.order

-- ---- the last two of a list

-- a list of one entry does not fall
pub falls-short : {A : Type 0} (key : A → ℕ × ℕ) (xs : List A) → length xs < 2 → false ≡ falls key xs
falls-short key [] few = refl
falls-short key (x ∷ []) few = refl
falls-short key (x ∷ y ∷ zs) few = absurd (omega (arith, few))

-- a list falls where its last entry does not come after the one before it
pub falls-last : {A : Type 0} (key : A → ℕ × ℕ) (xs : List A) (x y : A) → 2 ≤ length xs → x ≡ get_or xs (length xs - 2) x → y ≡ get_or xs (length xs - 1) y → not (pair_less (key x) (key y)) ≡ falls key xs
falls-last key [] x y many first last = absurd (omega (arith, many))
falls-last key (a ∷ []) x y many first last = absurd (omega (arith, many))
falls-last key (a ∷ b ∷ []) x y many first last = ap₂ (λ c d. not (pair_less (key c) (key d))) first last
falls-last key (a ∷ b ∷ c ∷ zs) x y many first last =
    let before : length (a ∷ b ∷ c ∷ zs) - 2 ≡ suc (length (b ∷ c ∷ zs) - 2) = omega arith in
    let end : length (a ∷ b ∷ c ∷ zs) - 1 ≡ suc (length (b ∷ c ∷ zs) - 1) = omega arith in
    falls-last key (b ∷ c ∷ zs) x y (omega arith) (first ∙ ap (λ k. get_or (a ∷ b ∷ c ∷ zs) k x) before) (last ∙ ap (λ k. get_or (a ∷ b ∷ c ∷ zs) k y) end)
