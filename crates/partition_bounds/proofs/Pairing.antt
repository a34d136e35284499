-- The list of the pairs has each of them once, in order.
use Rattle.std.proofs.Common.{◌≡◌, ℕ, zero, suc, ◌+◌, ◌*◌, ◌-◌, ◌<◌, ◌≤◌, ◌==◌, ◌&&◌, nat_lt, Bool, true, false, cond, List, [], ◌∷◌, ◌++◌, map, filter, length, sym, ◌∙◌, refl, ap, ap₂, subst, inl, inr, arith, lt-ltb, ltb-true, eq-eqb, eqb-true, count_by, length-append}
use Rattle.std.proofs.Math.Nat.{mul-suc, suc-mul}
use Rattle.std.proofs.lemmas.Bool.{cases_Bool, and_parts}
use Rattle.std.proofs.lemmas.Nat.{mul-le}
use Rattle.std.proofs.lemmas.List.{length-map}
use Rattle.std.proofs.lemmas.List.Sums.{length-filter, sum_by-cons, count_by-le-length}
use Rattle.std.specs.List.{flat_map, range_with_len}
use Rattle.limits.specs.declared.TheConstants.{MAX_STEPS}
use Rattle.invariants.specs.declared.records.Merge.{Merge}
use Rattle.partition_model.specs.Graphs.{Graph}
use Rattle.partition_model.specs.Listings.{ids_below}
use Rattle.partition_model.specs.Coarsening.{IsPair}
use Rattle.partition_model.specs.Laws.{PairsAscend, IsAmong}
use Rattle.partition_model.proofs.Lists.{In, In-map, map-In, bit}
use Rattle.partition_model.proofs.Listing.{In-filter, filter-In, In-flat_map, flat_map-In, range-In}
use Rattle.partition_bounds.specs.Pairs.{is_pair, pair_of, pairs_from, pairs_below, inner_count}
use Rattle.partition_bounds.specs.Laws.{IsBelow, PairsTell, PairsAreFew, PairsWithinLimit}

-- a pair of one type passes the test
pub pair-passes : (g : Graph) (p q : ℕ) → IsPair g p q → is_pair g p q ≡ true
pair-passes g p q i =
    let l : 2 ≤ p = i.low in
    let a : nat_lt 1 p ≡ true = lt-ltb 1 p (omega arith) in
    let b : nat_lt p q ≡ true = lt-ltb p q i.order in
    let c : (g.typ p == g.typ q) ≡ true = eq-eqb (g.typ p) (g.typ q) i.types in
    rw (a, b, i.has_p, i.has_q, c) refl

-- what passes the test is a pair of one type
pub passed-pair : (g : Graph) (p q : ℕ) → is_pair g p q ≡ true → IsPair g p q
passed-pair g p q e =
    let a : ((nat_lt 1 p && nat_lt p q && g.listed p && g.listed q) ≡ true) × ((g.typ p == g.typ q) ≡ true) =
    and_parts (nat_lt 1 p && nat_lt p q && g.listed p && g.listed q) (g.typ p == g.typ q) e in
    let b : ((nat_lt 1 p && nat_lt p q && g.listed p) ≡ true) × (g.listed q ≡ true) = and_parts (nat_lt 1 p && nat_lt p q && g.listed p) (g.listed q) a.0 in
    let c : ((nat_lt 1 p && nat_lt p q) ≡ true) × (g.listed p ≡ true) = and_parts (nat_lt 1 p && nat_lt p q) (g.listed p) b.0 in
    let d : (nat_lt 1 p ≡ true) × (nat_lt p q ≡ true) = and_parts (nat_lt 1 p) (nat_lt p q) c.0 in
    let l : 1 < p = ltb-true 1 p d.0 in
    record { low = omega arith; order = ltb-true p q d.1; has_p = c.1; has_q = b.1; types = eqb-true (g.typ p) (g.typ q) a.1 }

-- merges of the same ids are the same
same-merge : (m : Merge) (p q : ℕ) → m.p ≡ p → m.q ≡ q → m ≡ pair_of p q
same-merge m p q e f = λ d. record { p = e d; q = f d }

-- an element of a list of pairs is among them by its ids
pub In-Among : (p q : ℕ) (ms : List Merge) → In (pair_of p q) ms → IsAmong p q ms
In-Among p q [] i = i
In-Among p q (m ∷ ms) (inl e) = inl (ap (λ (z : Merge). z.p) e, ap (λ (z : Merge). z.q) e)
In-Among p q (m ∷ ms) (inr r) = inr (In-Among p q ms r)

-- what is among pairs by its ids is an element of their list
pub Among-In : (p q : ℕ) (ms : List Merge) → IsAmong p q ms → In (pair_of p q) ms
Among-In p q [] i = i
Among-In p q (m ∷ ms) (inl e) = inl (same-merge m p q e.0 e.1)
Among-In p q (m ∷ ms) (inr r) = inr (Among-In p q ms r)

-- each pair of one type is in the list
pair-listed : (g : Graph) (n p q : ℕ) → IsBelow n g → IsPair g p q → IsAmong p q (pairs_below n g)
pair-listed g n p q b i =
    let k : p < n = b p i.has_p in
    let l : q < n = b q i.has_q in
    let f : In q (filter (is_pair g p) (ids_below n)) = filter-In (is_pair g p) q (ids_below n) (range-In 0 n q (omega arith) (omega arith)) (pair-passes g p q i) in
    let m : In (pair_of p q) (pairs_from n g p) = map-In (pair_of p) q (filter (is_pair g p) (ids_below n)) f in
    In-Among p q (pairs_below n g) (flat_map-In (pairs_from n g) (pair_of p q) p (ids_below n) (range-In 0 n p (omega arith) (omega arith)) m)

-- what is in the list is a pair of one type
listed-pair : (g : Graph) (n p q : ℕ) → IsAmong p q (pairs_below n g) → IsPair g p q
listed-pair g n p q i =
    let o : (x : ℕ) × In x (ids_below n) × In (pair_of p q) (pairs_from n g x) = In-flat_map (pairs_from n g) (pair_of p q) (ids_below n) (Among-In p q (pairs_below n g) i) in
    let m : (y : ℕ) × In y (filter (is_pair g o.0) (ids_below n)) × (pair_of o.0 y ≡ pair_of p q) = In-map (pair_of o.0) (pair_of p q) (filter (is_pair g o.0) (ids_below n)) o.2 in
    let f : In m.0 (ids_below n) × (is_pair g o.0 m.0 ≡ true) = In-filter (is_pair g o.0) m.0 (ids_below n) m.1 in
    let e : o.0 ≡ p = ap (λ (z : Merge). z.p) m.2 in
    let d : m.0 ≡ q = ap (λ (z : Merge). z.q) m.2 in
    passed-pair g p q (sym (ap₂ (λ (x y : ℕ). is_pair g x y) e d) ∙ f.1)

-- the pairs of p with the m ids from a on
abbrev those : Graph → ℕ → ℕ → ℕ → List Merge
those g p a m = map (pair_of p) (filter (is_pair g p) (range_with_len a m))

-- that these ascend, and more behind them, where b says whether (p, a) is one
abbrev ascend-cond : Graph → ℕ → ℕ → ℕ → ℕ → ℕ → List Merge → Bool → Type 0
ascend-cond g p r s a m more b = PairsAscend r s (map (pair_of p) (cond b (a ∷ filter (is_pair g p) (range_with_len (a + 1) m)) (filter (is_pair g p) (range_with_len (a + 1) m))) ++ more)

-- behind a pair of p the pairs of p with higher ids ascend
then-same : (g : Graph) (p b a m : ℕ) (more : List Merge) → b < a → ((k : ℕ) → PairsAscend p k more) → PairsAscend p b (those g p a m ++ more)
then-same g p b a zero more l f = f b
then-same g p b a (suc m) more l f =
    elim (cases_Bool (is_pair g p a)) [
      | inl t ↦ subst (λ (c : Bool). ascend-cond g p p b a m more c) (sym t) (inr (refl, l), then-same g p a (a + 1) m more (omega arith) f)
      | inr n ↦ subst (λ (c : Bool). ascend-cond g p p b a m more c) (sym n) (then-same g p b (a + 1) m more (omega arith) f)
    ]

-- behind a pair of a lower id the pairs of p ascend
then-next : (g : Graph) (p r s a m : ℕ) (more : List Merge) → r < p → ((k : ℕ) → PairsAscend p k more) → PairsAscend r s more → PairsAscend r s (those g p a m ++ more)
then-next g p r s a zero more l f k = k
then-next g p r s a (suc m) more l f k =
    elim (cases_Bool (is_pair g p a)) [
      | inl t ↦ subst (λ (c : Bool). ascend-cond g p r s a m more c) (sym t) (inl l, then-same g p a (a + 1) m more (omega arith) f)
      | inr n ↦ subst (λ (c : Bool). ascend-cond g p r s a m more c) (sym n) (then-next g p r s (a + 1) m more l f k)
    ]

-- the pairs of ids from a on ascend
ascend-from : (g : Graph) (n a m r s : ℕ) → r < a → PairsAscend r s (flat_map (pairs_from n g) (range_with_len a m))
ascend-from g n a zero r s l = tt
ascend-from g n a (suc m) r s l =
    then-next g a r s 0 n (flat_map (pairs_from n g) (range_with_len (a + 1) m)) l
    (λ k. ascend-from g n (a + 1) m a k (omega arith)) (ascend-from g n (a + 1) m r s (omega arith))

-- where nothing passes, the filtered list is empty
none-pass : {X : Type 0} (f : X → Bool) (xs : List X) → ((x : X) → f x ≡ false) → filter f xs ≡ []
none-pass f [] e = refl
none-pass f (x ∷ xs) e = rw (e x) (none-pass f xs e)

-- no pair begins with INITIAL
none-from_0 : (g : Graph) (n : ℕ) → pairs_from n g 0 ≡ []
none-from_0 g n = ap (map (pair_of 0)) (none-pass (is_pair g 0) (ids_below n) (λ q. refl))

-- no pair begins with TERMINAL
none-from_1 : (g : Graph) (n : ℕ) → pairs_from n g 1 ≡ []
none-from_1 g n = ap (map (pair_of 1)) (none-pass (is_pair g 1) (ids_below n) (λ q. refl))

-- so the list has only the pairs of ids from 2 on
without-ends : (g : Graph) (m : ℕ) → pairs_below (suc (suc m)) g ≡ flat_map (pairs_from (suc (suc m)) g) (range_with_len 2 m)
without-ends g m =
    ap₂ (λ (x y : List Merge). x ++ (y ++ flat_map (pairs_from (suc (suc m)) g) (range_with_len 2 m))) (none-from_0 g (suc (suc m))) (none-from_1 g (suc (suc m)))

-- the list of the pairs ascends
below-ascends : (g : Graph) (n : ℕ) → PairsAscend 0 0 (pairs_below n g)
below-ascends g zero = tt
below-ascends g (suc zero) = subst (λ (z : List Merge). PairsAscend 0 0 (z ++ [])) (sym (none-from_0 g 1)) tt
below-ascends g (suc (suc m)) = subst (λ (z : List Merge). PairsAscend 0 0 z) (sym (without-ends g m)) (ascend-from g (suc (suc m)) 2 m 0 0 (omega arith))

-- the list has each pair of one type once, in order, and no others
pub pairs_tell : PairsTell
pairs_tell g n b = (below-ascends g n, λ p q. (λ i. pair-listed g n p q b i, λ i. listed-pair g n p q i))

-- how many numbers a range has
pub range-count : (a n : ℕ) → length (range_with_len a n) ≡ n
range-count a zero = refl
range-count a (suc n) = ap suc (range-count (a + 1) n)

-- among ids from a on, p has at most as many pairs as ids are above it
above-count : (g : Graph) (p a m : ℕ) → count_by (is_pair g p) (range_with_len a m) ≤ (a + m) - suc p
above-count g p a zero = omega arith
above-count g p a (suc m) =
    let s : count_by (is_pair g p) (a ∷ range_with_len (a + 1) m) ≡ bit (is_pair g p a) + count_by (is_pair g p) (range_with_len (a + 1) m) =
    sum_by-cons (λ (q : ℕ). cond (is_pair g p q) 1 0) a (range_with_len (a + 1) m) in
    elim (cases_Bool (is_pair g p a)) [
      | inl t ↦
          let i : IsPair g p a = passed-pair g p a t in
          let o : p < a = i.order in
          let k : count_by (is_pair g p) (range_with_len (a + 1) m) ≤ length (range_with_len (a + 1) m) = count_by-le-length (is_pair g p) (range_with_len (a + 1) m) in
          let r : length (range_with_len (a + 1) m) ≡ m = range-count (a + 1) m in
          let c : bit (is_pair g p a) ≡ 1 = ap bit t in
          omega arith
      | inr n ↦
          let k : count_by (is_pair g p) (range_with_len (a + 1) m) ≤ (a + 1 + m) - suc p = above-count g p (a + 1) m in
          let c : bit (is_pair g p a) ≡ 0 = ap bit n in
          omega arith
    ]

-- an id has at most as many pairs as there are ids above it
from-count : (g : Graph) (n p : ℕ) → length (pairs_from n g p) ≤ n - suc p
from-count g n p =
    let a : length (map (pair_of p) (filter (is_pair g p) (ids_below n))) ≡ length (filter (is_pair g p) (ids_below n)) = length-map (filter (is_pair g p) (ids_below n)) (pair_of p) in
    let b : length (filter (is_pair g p) (ids_below n)) ≡ count_by (is_pair g p) (ids_below n) = length-filter (is_pair g p) (ids_below n) in
    let c : count_by (is_pair g p) (range_with_len 0 n) ≤ (0 + n) - suc p = above-count g p 0 n in
    omega arith

-- 0 + 1 + .. + (m - 1)
triangle : ℕ → ℕ
triangle zero = 0
triangle (suc m) = m + triangle m

-- twice that sum is a product
twice-triangle : (m : ℕ) → 2 * triangle (suc m) ≡ suc m * m
unfolding triangle
twice-triangle zero = refl
twice-triangle (suc m) =
    let i : 2 * triangle (suc m) ≡ suc m * m = twice-triangle m in
    let a : suc (suc m) * suc m ≡ suc m * suc m + suc m = suc-mul (suc m) (suc m) in
    let b : suc m * suc m ≡ suc m * m + suc m = mul-suc (suc m) m in
    let c : triangle (suc (suc m)) ≡ suc m + triangle (suc m) = refl in
    omega arith

-- the pairs of the ids from a on are at most as many as such a sum
all-count : (g : Graph) (n a m : ℕ) → a + m ≡ n → length (flat_map (pairs_from n g) (range_with_len a m)) ≤ triangle m
unfolding triangle
all-count g n a zero e = omega arith
all-count g n a (suc m) e =
    let f : length (pairs_from n g a) ≤ n - suc a = from-count g n a in
    let i : length (flat_map (pairs_from n g) (range_with_len (a + 1) m)) ≤ triangle m = all-count g n (a + 1) m (omega arith) in
    let s : length (pairs_from n g a ++ flat_map (pairs_from n g) (range_with_len (a + 1) m)) ≡ length (pairs_from n g a) + length (flat_map (pairs_from n g) (range_with_len (a + 1) m)) =
    length-append (pairs_from n g a) (flat_map (pairs_from n g) (range_with_len (a + 1) m)) in
    omega arith

-- the pairs are at most as many as m ids that are no ends have in all
few : (g : Graph) (m : ℕ) → 2 * length (pairs_below (suc (suc m)) g) ≤ m * (m - 1)
few g zero =
    let e : length (pairs_below 2 g) ≡ 0 = ap length (without-ends g 0) in
    omega arith
few g (suc m) =
    let e : length (pairs_below (suc (suc (suc m))) g) ≡ length (flat_map (pairs_from (suc (suc (suc m))) g) (range_with_len 2 (suc m))) = ap length (without-ends g (suc m)) in
    let c : length (flat_map (pairs_from (suc (suc (suc m))) g) (range_with_len 2 (suc m))) ≤ triangle (suc m) = all-count g (suc (suc (suc m))) 2 (suc m) (omega arith) in
    let t : 2 * triangle (suc m) ≡ suc m * m = twice-triangle m in
    let k : suc m - 1 ≡ m = omega arith in
    let p : suc m * (suc m - 1) ≡ suc m * m = ap (λ (z : ℕ). suc m * z) k in
    omega arith

-- there are no more pairs than the ids other than the ends have in all
pub pairs_are_few : PairsAreFew
pairs_are_few g zero = omega arith
pairs_are_few g (suc zero) =
    let e : length (pairs_from 1 g 0 ++ []) ≡ 0 = ap (λ (z : List Merge). length (z ++ [])) (none-from_0 g 1) in
    omega arith
pairs_are_few g (suc (suc m)) =
    let f : 2 * length (pairs_below (suc (suc m)) g) ≤ m * (m - 1) = few g m in
    let e : inner_count (suc (suc m)) ≡ m = omega arith in
    subst (λ (z : ℕ). 2 * length (pairs_below (suc (suc m)) g) ≤ z * (z - 1)) (sym e) f

-- so there are at most so many pairs of all ids that may be
pub pairs_within_limit : PairsWithinLimit
pairs_within_limit g n l =
    let f : 2 * length (pairs_below n g) ≤ inner_count n * (inner_count n - 1) = pairs_are_few g n in
    let m : inner_count n * (inner_count n - 1) ≤ MAX_STEPS * (MAX_STEPS - 1) = mul-le (inner_count n) (inner_count n - 1) MAX_STEPS (MAX_STEPS - 1) (omega arith) (omega arith) in
    omega arith
