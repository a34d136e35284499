-- Coarsening makes no pairs of one type, and the list of the pairs ascends in each graph.
use Rattle.std.proofs.Common.{◌≡◌, ℕ, ◌+◌, ◌<◌, ◌≤◌, ◌==◌, ◌&&◌, nat_lt, Bool, true, false, cond, List, [], ◌∷◌, ◌++◌, map, filter, length, refl, ap, ap₂, subst, inl, inr, arith, lt-ltb, ltb-true, length-append}
use Rattle.std.proofs.lemmas.Bool.{cases_Bool, cond-true, cond-false, and_parts}
use Rattle.std.proofs.lemmas.List.{length-map}
use Rattle.std.specs.List.{flat_map}
use Rattle.invariants.specs.declared.Invariant.{Invariant}
use Rattle.invariants.specs.declared.records.Merge.{Merge}
use Rattle.partition_model.specs.Graphs.{Graph}
use Rattle.partition_model.specs.Assignments.{Assignment, IsTyped, G}
use Rattle.partition_model.specs.Listings.{ids_below}
use Rattle.partition_model.specs.Coarsening.{merge, merged_by, IsPair, Coarsens}
use Rattle.partition_model.specs.Laws.{MergeInTurn, PairsAscend}
use Rattle.partition_model.proofs.Lists.{In}
use Rattle.partition_model.proofs.Passes.{lost_through_merges}
use Rattle.partition_bounds.specs.Pairs.{is_pair, pair_of, pairs_from, pairs_below}
use Rattle.partition_bounds.proofs.Merges.{In-range}
use Rattle.partition_bounds.proofs.Pairing.{pair-passes, passed-pair, pairs_tell}

-- the merges of coarsening are of pairs that are there in their turn
pub in-turn : (invs : List Invariant) (merges : List Merge) (h end : Assignment) → Coarsens invs h merges end → MergeInTurn h merges × (end ≡ merged_by merges h)
in-turn invs [] h end c = (tt, c.1)
in-turn invs (m ∷ merges) h end c =
    let o : MergeInTurn (merge m.p m.q h) merges × (end ≡ merged_by merges (merge m.p m.q h)) = in-turn invs merges (merge m.p m.q h) end c.1 in
    ((c.0.pair, o.0), o.1)

-- a pair at the end was one before
pair-before : (invs : List Invariant) (merges : List Merge) (h end : Assignment) → IsTyped h → Coarsens invs h merges end → (p q : ℕ) → IsPair (G end) p q → IsPair (G h) p q
pair-before invs merges h end t c p q i =
    let o : MergeInTurn h merges × (end ≡ merged_by merges h) = in-turn invs merges h end c in
    (lost_through_merges invs h merges p q t o.0 (subst (λ (x : Assignment). IsPair (G x) p q) o.1 i)).0

-- fewer pass a stronger test
filter-fewer : (f g : ℕ → Bool) (xs : List ℕ) → ((x : ℕ) → f x ≡ true → g x ≡ true) → length (filter f xs) ≤ length (filter g xs)
filter-fewer f g [] k = omega arith
filter-fewer f g (x ∷ xs) k =
    let i : length (filter f xs) ≤ length (filter g xs) = filter-fewer f g xs k in
    elim (cases_Bool (f x)) [
      | inl t ↦
          let a : filter f (x ∷ xs) ≡ x ∷ filter f xs = cond-true _ _ _ t in
          let b : filter g (x ∷ xs) ≡ x ∷ filter g xs = cond-true _ _ _ (k x t) in
          omega (arith, ap (λ (zs : List ℕ). length zs) a, ap (λ (zs : List ℕ). length zs) b)
      | inr n ↦
          let a : filter f (x ∷ xs) ≡ filter f xs = cond-false _ _ _ n in
          elim (cases_Bool (g x)) [
            | inl t ↦
                let b : filter g (x ∷ xs) ≡ x ∷ filter g xs = cond-true _ _ _ t in
                omega (arith, ap (λ (zs : List ℕ). length zs) a, ap (λ (zs : List ℕ). length zs) b)
            | inr m ↦
                let b : filter g (x ∷ xs) ≡ filter g xs = cond-false _ _ _ m in
                omega (arith, ap (λ (zs : List ℕ). length zs) a, ap (λ (zs : List ℕ). length zs) b)
          ]
    ]

from-fewer : (g k : Graph) (n p : ℕ) → ((p q : ℕ) → IsPair g p q → IsPair k p q) → length (pairs_from n g p) ≤ length (pairs_from n k p)
from-fewer g k n p f =
    let a : length (pairs_from n g p) ≡ length (filter (is_pair g p) (ids_below n)) = length-map (filter (is_pair g p) (ids_below n)) (pair_of p) in
    let b : length (pairs_from n k p) ≡ length (filter (is_pair k p) (ids_below n)) = length-map (filter (is_pair k p) (ids_below n)) (pair_of p) in
    let c : length (filter (is_pair g p) (ids_below n)) ≤ length (filter (is_pair k p) (ids_below n)) =
    filter-fewer (is_pair g p) (is_pair k p) (ids_below n) (λ q e. pair-passes k p q (f p q (passed-pair g p q e))) in
    omega arith

all-fewer : (g k : Graph) (n : ℕ) (ids : List ℕ) → ((p q : ℕ) → IsPair g p q → IsPair k p q) → length (flat_map (pairs_from n g) ids) ≤ length (flat_map (pairs_from n k) ids)
all-fewer g k n [] f = omega arith
all-fewer g k n (p ∷ ids) f =
    let a : length (pairs_from n g p ++ flat_map (pairs_from n g) ids) ≡ length (pairs_from n g p) + length (flat_map (pairs_from n g) ids) = length-append (pairs_from n g p) (flat_map (pairs_from n g) ids) in
    let b : length (pairs_from n k p ++ flat_map (pairs_from n k) ids) ≡ length (pairs_from n k p) + length (flat_map (pairs_from n k) ids) = length-append (pairs_from n k p) (flat_map (pairs_from n k) ids) in
    let c : length (pairs_from n g p) ≤ length (pairs_from n k p) = from-fewer g k n p f in
    let d : length (flat_map (pairs_from n g) ids) ≤ length (flat_map (pairs_from n k) ids) = all-fewer g k n ids f in
    omega arith

-- at the end of coarsening there are no more pairs than before
pub pairs-fewer : (invs : List Invariant) (merges : List Merge) (h end : Assignment) (n : ℕ) → IsTyped h → Coarsens invs h merges end → length (pairs_below n (G end)) ≤ length (pairs_below n (G h))
pairs-fewer invs merges h end n t c = all-fewer (G end) (G h) n (ids_below n) (pair-before invs merges h end t c)

-- the graph without the listed ids from the bound on
abbrev front : ℕ → Graph → Graph
front n g = record { typ = g.typ; edge = g.edge; listed = λ p. g.listed p && nat_lt p n }

filter-same : (f g : ℕ → Bool) (xs : List ℕ) → ((x : ℕ) → In x xs → f x ≡ g x) → filter f xs ≡ filter g xs
filter-same f g [] k = refl
filter-same f g (x ∷ xs) k = ap₂ (λ (b : Bool) (zs : List ℕ). cond b (x ∷ zs) zs) (k x (inl refl)) (filter-same f g xs (λ y i. k y (inr i)))

flat-same : (f g : ℕ → List Merge) (xs : List ℕ) → ((x : ℕ) → In x xs → f x ≡ g x) → flat_map f xs ≡ flat_map g xs
flat-same f g [] k = refl
flat-same f g (x ∷ xs) k = ap₂ (λ (ms ns : List Merge). ms ++ ns) (k x (inl refl)) (flat-same f g xs (λ y i. k y (inr i)))

kept : (b c : Bool) → c ≡ true → (b && c) ≡ b
kept true c e = e
kept false c e = refl

front-same : (n : ℕ) (g : Graph) → pairs_below n (front n g) ≡ pairs_below n g
front-same n g =
    flat-same (pairs_from n (front n g)) (pairs_from n g) (ids_below n) (λ p i.
    ap (λ (qs : List ℕ). map (pair_of p) qs) (filter-same (is_pair (front n g) p) (is_pair g p) (ids_below n) (λ q j.
    let k : p < 0 + n = (In-range 0 n p i).1 in
    let l : q < 0 + n = (In-range 0 n q j).1 in
    let a : nat_lt p n ≡ true = lt-ltb p n (omega arith) in
    let b : nat_lt q n ≡ true = lt-ltb q n (omega arith) in
    ap₂ (λ (x y : Bool). nat_lt 1 p && nat_lt p q && x && y && g.typ p == g.typ q) (kept (g.listed p) (nat_lt p n) a) (kept (g.listed q) (nat_lt q n) b))))

-- the list of the pairs ascends, wherever the ids of the graph are
pub pairs-ascend : (n : ℕ) (g : Graph) → PairsAscend 0 0 (pairs_below n g)
pairs-ascend n g =
    subst (λ (ms : List Merge). PairsAscend 0 0 ms) (front-same n g)
    (pairs_tell (front n g) n (λ p k. ltb-true p n (and_parts (g.listed p) (nat_lt p n) k).1)).0
