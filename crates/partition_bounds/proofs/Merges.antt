-- Each merge takes an id away.
use Rattle.std.proofs.Common.{◌≡◌, ℕ, zero, suc, ◌+◌, ◌<◌, ◌≤◌, Bool, true, false, cond, List, [], ◌∷◌, map, length, sym, ◌∙◌, refl, ap, subst, inl, inr, arith, count_by, ◌↔◌, ◌==◌, not}
use Rattle.std.proofs.lemmas.Bool.{cases_eq, cases_Bool, and_parts}
use Rattle.std.proofs.lemmas.List.Sums.{sum_by-cons, count_by-le-length}
use Rattle.std.specs.List.{AllByRecursion, range_with_len}
use Rattle.invariants.specs.declared.Invariant.{Invariant}
use Rattle.invariants.specs.declared.records.Merge.{Merge}
use Rattle.partition_model.specs.Assignments.{Event, Assignment, events, G, is_live, renamed_event}
use Rattle.partition_model.specs.Listings.{AreBelow}
use Rattle.partition_model.specs.Coarsening.{merge, onto, IsPair, Coarsens}
use Rattle.partition_model.proofs.Lists.{In, In-map, all_in, all_from, bit}
use Rattle.partition_model.proofs.Listing.{live-below, range-In}
use Rattle.partition_model.proofs.Naming.{events-renamed}
use Rattle.partition_model.proofs.Merging.{onto_is, onto_other, gone}
use Rattle.partition_model.proofs.Passes.{live-back, one_pass_coarsens}
use Rattle.partition_model.specs.Laws.{PairsAscend, IsAmong}
use Rattle.partition_bounds.specs.Pairs.{pairs_below}
use Rattle.partition_bounds.specs.Laws.{GraphsAreBelow, MergedAreBelow, MergesStayBelow, PassCoarsens, MergesAreFew}
use Rattle.partition_bounds.proofs.Pairing.{range-count, pairs_tell}

-- numbers of a range
pub In-range : (a m x : ℕ) → In x (range_with_len a m) → (a ≤ x) × (x < a + m)
In-range a zero x i = absurd i
In-range a (suc m) x (inl e) = (omega arith, omega arith)
In-range a (suc m) x (inr r) = let o : (a + 1 ≤ x) × (x < a + 1 + m) = In-range (a + 1) m x r in (omega (arith, o.0), omega (arith, o.1))

-- after a merge the ids of events are below the same bound
pub merge-below : (h : Assignment) (n p q : ℕ) → 2 ≤ n → AreBelow n h → IsPair (G h) p q → AreBelow n (merge p q h)
merge-below h n p q l b i =
    let k : q < n = live-below h n q l b i.has_q in
    let m : p < q = i.order in
    subst (λ (es : List Event). AllByRecursion (λ e. e.id < n) es) (sym (events-renamed (onto p q) h))
    (all_from (λ e. e.id < n) (map (renamed_event (onto p q)) (events h)) (λ e j.
    let o : (d : Event) × In d (events h) × (renamed_event (onto p q) d ≡ e) = In-map (renamed_event (onto p q)) e (events h) j in
    let c : o.0.id < n = all_in (λ e. e.id < n) o.0 (events h) b o.1 in
    let ei : onto p q o.0.id ≡ e.id = ap (λ (x : Event). x.id) o.2 in
    elim (cases_eq o.0.id q) [
      | inl s ↦ (let f : p ≡ e.id = sym (onto_is p q o.0.id s) ∙ ei in omega arith)
      | inr s ↦ (let f : o.0.id ≡ e.id = sym (onto_other p q o.0.id s) ∙ ei in omega arith)
    ]))

-- so they are where coarsening ends
pub merges-below : (invs : List Invariant) (ms : List Merge) (h end : Assignment) (n : ℕ) → 2 ≤ n → AreBelow n h → Coarsens invs h ms end → AreBelow n end
merges-below invs [] h end n l b c = subst (λ (x : Assignment). AreBelow n x) (sym c.1) b
merges-below invs (m ∷ ms) h end n l b c = merges-below invs ms (merge m.p m.q h) end n l (merge-below h n m.p m.q l b c.0.pair) c.1

-- what holds only where another thing does counts for no more than that
bit-le : (a b : Bool) → (a ≡ true → b ≡ true) → bit a ≤ bit b
bit-le false b f = omega arith
bit-le true b f = rw (f refl) (omega arith)

-- a test that passes only where another does passes no more often
count-le : (f g : ℕ → Bool) (xs : List ℕ) → ((x : ℕ) → In x xs → f x ≡ true → g x ≡ true) → count_by f xs ≤ count_by g xs
count-le f g [] k = omega arith
count-le f g (x ∷ xs) k =
    let i : count_by f xs ≤ count_by g xs = count-le f g xs (λ y j. k y (inr j)) in
    let a : count_by f (x ∷ xs) ≡ bit (f x) + count_by f xs = sum_by-cons (λ (y : ℕ). cond (f y) 1 0) x xs in
    let b : count_by g (x ∷ xs) ≡ bit (g x) + count_by g xs = sum_by-cons (λ (y : ℕ). cond (g y) 1 0) x xs in
    let c : bit (f x) ≤ bit (g x) = bit-le (f x) (g x) (k x (inl refl)) in
    omega arith

-- and it passes less often where the other passes once without it
count-less : (f g : ℕ → Bool) (y : ℕ) (xs : List ℕ) → ((x : ℕ) → In x xs → f x ≡ true → g x ≡ true) → In y xs → f y ≡ false → g y ≡ true → suc (count_by f xs) ≤ count_by g xs
count-less f g y [] k i u v = absurd i
count-less f g y (x ∷ xs) k (inl e) u v =
    let i : count_by f xs ≤ count_by g xs = count-le f g xs (λ z j. k z (inr j)) in
    let a : count_by f (x ∷ xs) ≡ bit (f x) + count_by f xs = sum_by-cons (λ (z : ℕ). cond (f z) 1 0) x xs in
    let b : count_by g (x ∷ xs) ≡ bit (g x) + count_by g xs = sum_by-cons (λ (z : ℕ). cond (g z) 1 0) x xs in
    let c : bit (f x) ≡ 0 = ap bit (ap f e ∙ u) in
    let d : bit (g x) ≡ 1 = ap bit (ap g e ∙ v) in
    omega arith
count-less f g y (x ∷ xs) k (inr r) u v =
    let i : suc (count_by f xs) ≤ count_by g xs = count-less f g y xs (λ z j. k z (inr j)) r u v in
    let a : count_by f (x ∷ xs) ≡ bit (f x) + count_by f xs = sum_by-cons (λ (z : ℕ). cond (f z) 1 0) x xs in
    let b : count_by g (x ∷ xs) ≡ bit (g x) + count_by g xs = sum_by-cons (λ (z : ℕ). cond (g z) 1 0) x xs in
    let c : bit (f x) ≤ bit (g x) = bit-le (f x) (g x) (k x (inl refl)) in
    omega arith

-- the id that is merged away is live no more
gone-is-dead : (h : Assignment) (p q : ℕ) → IsPair (G h) p q → is_live (merge p q h) q ≡ false
gone-is-dead h p q i =
    let l : 2 ≤ p = i.low in
    let m : p < q = i.order in
    elim (cases_Bool (is_live (merge p q h) q)) [
      | inl t ↦ absurd (gone h p q q i (omega arith) t refl)
      | inr f ↦ f
    ]

-- a merge leaves fewer live ids
fewer-live : (h : Assignment) (j p q : ℕ) → AreBelow (suc (suc j)) h → IsPair (G h) p q
    → suc (count_by (is_live (merge p q h)) (range_with_len 2 j)) ≤ count_by (is_live h) (range_with_len 2 j)
fewer-live h j p q b i =
    let l : 2 ≤ p = i.low in
    let m : p < q = i.order in
    let u : q < suc (suc j) = live-below h (suc (suc j)) q (omega arith) b i.has_q in
    count-less (is_live (merge p q h)) (is_live h) q (range_with_len 2 j)
    (λ x k t. live-back h p q x i (In-range 2 j x k).0 t) (range-In 2 j q (omega arith) (omega arith)) (gone-is-dead h p q i) i.has_q

-- the merges and the ids that are live in the end are no more than those that were live before
merges-few : (invs : List Invariant) (ms : List Merge) (h end : Assignment) (j : ℕ) → AreBelow (suc (suc j)) h → Coarsens invs h ms end
    → length ms + count_by (is_live end) (range_with_len 2 j) ≤ count_by (is_live h) (range_with_len 2 j)
merges-few invs [] h end j b c =
    let e : count_by (is_live end) (range_with_len 2 j) ≡ count_by (is_live h) (range_with_len 2 j) = ap (λ (x : Assignment). count_by (is_live x) (range_with_len 2 j)) c.1 in
    omega arith
merges-few invs (m ∷ ms) h end j b c =
    let i : length ms + count_by (is_live end) (range_with_len 2 j) ≤ count_by (is_live (merge m.p m.q h)) (range_with_len 2 j) =
    merges-few invs ms (merge m.p m.q h) end j (merge-below h (suc (suc j)) m.p m.q (omega arith) b c.0.pair) c.1 in
    let f : suc (count_by (is_live (merge m.p m.q h)) (range_with_len 2 j)) ≤ count_by (is_live h) (range_with_len 2 j) = fewer-live h j m.p m.q b c.0.pair in
    omega arith

-- a run of coarsening has at least two merges fewer than the bound of the ids
pub merges_are_few : MergesAreFew
merges_are_few invs h ms end zero l b c = absurd (omega arith)
merges_are_few invs h ms end (suc zero) l b c = absurd (omega arith)
merges_are_few invs h ms end (suc (suc j)) l b c =
    let f : length ms + count_by (is_live end) (range_with_len 2 j) ≤ count_by (is_live h) (range_with_len 2 j) = merges-few invs ms h end j b c in
    let a : count_by (is_live h) (range_with_len 2 j) ≤ length (range_with_len 2 j) = count_by-le-length (is_live h) (range_with_len 2 j) in
    let d : length (range_with_len 2 j) ≡ j = range-count 2 j in
    omega arith

-- where the ids of events are below a bound, so are the listed ids of their graph
pub graphs_are_below : GraphsAreBelow
graphs_are_below h n l b p k = live-below h n p l b k

-- and so are those of the merged graph
pub merged_are_below : MergedAreBelow
merged_are_below g p q n b u k = b u (and_parts (not (u == q)) (g.listed u) k).1

-- a merge makes no new id
pub merges_stay_below : MergesStayBelow
merges_stay_below h p q n l i b = merge-below h n p q l b i

-- one pass over the list of the pairs makes the whole run of coarsening
pub pass_coarsens : PassCoarsens
pass_coarsens invs h n ms end l t b w =
    let p : PairsAscend 0 0 (pairs_below n (G h)) × ((p q : ℕ) → IsPair (G h) p q ↔ IsAmong p q (pairs_below n (G h))) = pairs_tell (G h) n (graphs_are_below h n l b) in
    one_pass_coarsens invs h (pairs_below n (G h)) ms end t p.0 (λ r s i. (p.1 r s).0 i) w
