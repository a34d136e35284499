-- What the pass of coarsening keeps.
use Rattle.std.proofs.Common.{◌≡◌, ℕ, suc, ◌+◌, ◌-◌, ◌<◌, ◌≤◌, Bool, true, false, ◌||◌, cond, List, [], ◌∷◌, ◌++◌, length, map, count_by, sym, ◌∙◌, refl, ap, subst, subst₂, inl, inr, arith, length-append}
use Rattle.std.proofs.lemmas.List.{map-append, length-map}
use Rattle.std.proofs.lemmas.Bool.{cases_lt, cases_Bool, true≢false}
use Rattle.std.proofs.lemmas.List.Sums.{sum_by-cons, count_by-le-length}
use Rattle.std.specs.List.{range_with_len}
use Rattle.limits.specs.declared.TheConstants.{MAX_PARTITIONS}
use Rattle.invariants.specs.declared.Invariant.{Invariant}
use Rattle.invariants.specs.declared.records.Merge.{Merge}
use Rattle.partition_model.specs.Assignments.{Assignment, G, IsTyped, is_live}
use Rattle.partition_model.specs.Listings.{AreBelow}
use Rattle.partition_model.specs.Refinement.{SatisfiesAll}
use Rattle.partition_model.specs.Coarsening.{merge, IsPair, IsNextMerge, NoMerge, PairBefore, Coarsens}
use Rattle.partition_model.specs.Laws.{LostBefore}
use Rattle.partition_model.proofs.Lists.{In, bit}
use Rattle.partition_model.proofs.Listing.{live-below, range-In}
use Rattle.partition_model.proofs.Merging.{gone}
use Rattle.partition_model.proofs.Passes.{live-back, pair-back, one_pass_merges}
use Rattle.partition_bounds.proofs.Merges.{graphs_are_below, In-range}
use Rattle.partition_bounds.specs.Pairs.{pairs_below}
use Rattle.partition_bounds.proofs.Pairing.{range-count}
use Rattle.partition_graph.specs.Parts.{Parts, joined}
use Rattle.cell_pool.specs.RunLists.{RunLists}
use Rattle.run_history.specs.Records.{merges_of, merge_of}
use Rattle.coarsener.specs.Pairs.{HasIds, HasNoPairBehind, IsNextPair}
use Rattle.coarsener.specs.declared.merging.Marked.{Marked}
use Rattle.coarsener.specs.declared.merging.Marked.TheVariants.{Nothing, Before, Now}
use Rattle.coarsener.specs.Blocking.{pair_count}
use Rattle.coarsener.specs.Marking.{owed, stays_apart}
use Rattle.coarsener.specs.Deciding.{IsDecided, with_merge}
use Rattle.coarsener.proofs.Remaining.{remain-start, remain-none, Covers, covers-start, covers-next, covers-merged}

-- these merges lead from h to the end, each the next one
abbrev pub Merges : List Invariant → Assignment → List Merge → Assignment → Type 0
Merges invs h [] end = end ≡ h
Merges invs h (m ∷ ms) end = IsNextMerge invs h m × Merges invs (merge m.p m.q h) ms end

merges-push : (invs : List Invariant) (ms : List Merge) (m : Merge) (h mid : Assignment) → Merges invs h ms mid → IsNextMerge invs mid m → Merges invs h (ms ++ m ∷ []) (merge m.p m.q mid)
merges-push invs [] m h mid w n =
    (subst (λ (x : Assignment). IsNextMerge invs x m) w n, ap (merge m.p m.q) w)
merges-push invs (x ∷ ms) m h mid w n = (w.0, merges-push invs ms m (merge x.p x.q h) mid w.1 n)

merges-end : (invs : List Invariant) (ms : List Merge) (h end : Assignment) → Merges invs h ms end → NoMerge invs end → Coarsens invs h ms end
merges-end invs [] h end w n = (subst (λ (x : Assignment). NoMerge invs x) w n, w)
merges-end invs (m ∷ ms) h end w n = (w.0, merges-end invs ms (merge m.p m.q h) end w.1 n)

-- a truth value that follows from another counts for no less
bit-le : (a b : Bool) → (a ≡ true → b ≡ true) → bit a ≤ bit b
bit-le false b f = omega arith
bit-le true b f = rw (f refl) (omega arith)

count-le : (f g : ℕ → Bool) (xs : List ℕ) → ((x : ℕ) → In x xs → f x ≡ true → g x ≡ true) → count_by f xs ≤ count_by g xs
count-le f g [] k = omega arith
count-le f g (x ∷ xs) k =
    let i : count_by f xs ≤ count_by g xs = count-le f g xs (λ y j. k y (inr j)) in
    let a : count_by f (x ∷ xs) ≡ bit (f x) + count_by f xs = sum_by-cons (λ (y : ℕ). cond (f y) 1 0) x xs in
    let b : count_by g (x ∷ xs) ≡ bit (g x) + count_by g xs = sum_by-cons (λ (y : ℕ). cond (g y) 1 0) x xs in
    let c : bit (f x) ≤ bit (g x) = bit-le (f x) (g x) (k x (inl refl)) in
    omega arith

count-less : (f g : ℕ → Bool) (y : ℕ) (xs : List ℕ) → ((x : ℕ) → In x xs → f x ≡ true → g x ≡ true) → In y xs → f y ≡ false → g y ≡ true → suc (count_by f xs) ≤ count_by g xs
count-less f g y [] k i u v = absurd i
count-less f g y (x ∷ xs) k (inl e) u v =
    let i : count_by f xs ≤ count_by g xs = count-le f g xs (λ z j. k z (inr j)) in
    let a : count_by f (x ∷ xs) ≡ bit (f x) + count_by f xs = sum_by-cons (λ (z : ℕ). cond (f z) 1 0) x xs in
    let b : count_by g (x ∷ xs) ≡ bit (g x) + count_by g xs = sum_by-cons (λ (z : ℕ). cond (g z) 1 0) x xs in
    let c : bit (f x) ≡ 0 = ap bit (ap f e ∙ u) in
    let d : bit (g x) ≡ 1 = ap bit (ap g e ∙ v) in
    omega arith
count-less f g y (x ∷ xs) k (inr r) u v =
    let i : suc (count_by f xs) ≤ count_by g xs = count-less f g y xs (λ z j. k z (inr j)) r u v in
    let a : count_by f (x ∷ xs) ≡ bit (f x) + count_by f xs = sum_by-cons (λ (z : ℕ). cond (f z) 1 0) x xs in
    let b : count_by g (x ∷ xs) ≡ bit (g x) + count_by g xs = sum_by-cons (λ (z : ℕ). cond (g z) 1 0) x xs in
    let c : bit (f x) ≤ bit (g x) = bit-le (f x) (g x) (k x (inl refl)) in
    omega arith

-- the id that a merge takes away is live no more
gone-is-dead : (h : Assignment) (p q : ℕ) → IsPair (G h) p q → is_live (merge p q h) q ≡ false
gone-is-dead h p q i =
    let l : 2 ≤ p = i.low in
    let m : p < q = i.order in
    elim (cases_Bool (is_live (merge p q h) q)) [
      | inl t ↦ absurd (gone h p q q i (omega arith) t refl)
      | inr f ↦ f
    ]

-- how many ids below n, beside the two ends, have events
abbrev pub live_count : ℕ → Assignment → ℕ
live_count n h = count_by (is_live h) (range_with_len 2 (n - 2))

-- each merge takes an id away
fewer-live : (h : Assignment) (n p q : ℕ) → 2 ≤ n → AreBelow n h → IsPair (G h) p q → suc (live_count n (merge p q h)) ≤ live_count n h
fewer-live h n p q two b i =
    let l : 2 ≤ p = i.low in
    let m : p < q = i.order in
    let u : q < n = live-below h n q two b i.has_q in
    count-less (is_live (merge p q h)) (is_live h) q (range_with_len 2 (n - 2))
    (λ x k t. live-back h p q x i (In-range 2 (n - 2) x k).0 t) (range-In 2 (n - 2) q (omega arith) (omega arith)) (gone-is-dead h p q i) i.has_q

live-few : (n : ℕ) (h : Assignment) → live_count n h ≤ n - 2
live-few n h =
    let a : count_by (is_live h) (range_with_len 2 (n - 2)) ≤ length (range_with_len 2 (n - 2)) = count_by-le-length (is_live h) (range_with_len 2 (n - 2)) in
    let d : length (range_with_len 2 (n - 2)) ≡ n - 2 = range-count 2 (n - 2) in
    omega arith

-- what the pass keeps: the pairs up to (p, q) are decided
pub record IsCoarsening (invs : List Invariant) (old now : Parts) (p q : ℕ) (ms : List Merge) : Type 0 where
  pub so_far : Merges invs old.traces ms now.traces
  pub used : now.used ≡ old.used
  pub lost : LostBefore invs now.traces p (q + 1)
  pub satisfied : SatisfiesAll (G now.traces) invs
  pub few : length ms + live_count old.used now.traces ≤ live_count old.used old.traces

none-before : (h : Assignment) (u v : ℕ) → IsPair (G h) u v → PairBefore u v 2 3 → ⊥
none-before h u v i (inl l) = let a : 2 ≤ u = i.low in omega (arith, l)
none-before h u v i (inr e) =
    let a : 2 ≤ u = i.low in
    let o : u < v = i.order in
    omega (arith, e.0, e.1)

-- before the first pair no merge is made
pub coarsening-start : (invs : List Invariant) (parts : Parts) (run_log : RunLists) → SatisfiesAll (G parts.traces) invs → run_log.merges ≡ [] → IsCoarsening invs parts parts 2 2 (merges_of run_log)
coarsening-start invs parts run_log sat e =
    subst (λ (ms : List Merge). IsCoarsening invs parts parts 2 2 ms) (sym (ap (map merge_of) e))
    (record { so_far = refl; used = refl; lost = λ u v i k all. none-before parts.traces u v i k; satisfied = sat; few = omega arith })

-- each pair before the next one is decided
lost-between : (invs : List Invariant) (h : Assignment) (p q r s : ℕ) → LostBefore invs h p (q + 1) → IsNextPair (G h) p q r s → LostBefore invs h r s
lost-between invs h p q r s lost n u v i k sat =
    elim (cases_lt u p) [
      | inl l ↦ lost u v i (inl l) sat
      | inr l ↦ elim (cases_lt p u) [
        | inl m ↦ n.first u v i (inl m) k
        | inr m ↦ elim (cases_lt v (q + 1)) [
          | inl w ↦ lost u v i (inr (omega arith, w)) sat
          | inr w ↦ n.first u v i (inr (omega arith, omega arith)) k
        ]
      ]
    ]

lost-behind : (invs : List Invariant) (h : Assignment) (p q : ℕ) → LostBefore invs h p (q + 1) → HasNoPairBehind (G h) p q → NoMerge invs h
lost-behind invs h p q lost n u v i sat =
    elim (cases_lt u p) [
      | inl l ↦ lost u v i (inl l) sat
      | inr l ↦ elim (cases_lt p u) [
        | inl m ↦ n u v i (inl m)
        | inr m ↦ elim (cases_lt v (q + 1)) [
          | inl w ↦ lost u v i (inr (omega arith, w)) sat
          | inr w ↦ n u v i (inr (omega arith, omega arith))
        ]
      ]
    ]

lost-too : (invs : List Invariant) (h : Assignment) (r s : ℕ) → LostBefore invs h r s → (SatisfiesAll (G (merge r s h)) invs → ⊥) → LostBefore invs h r (s + 1)
lost-too invs h r s lost f u v i (inl l) sat = lost u v i (inl l) sat
lost-too invs h r s lost f u v i (inr e) sat =
    elim (cases_lt v s) [
      | inl w ↦ lost u v i (inr (e.0, w)) sat
      | inr w ↦
          let a : v < s + 1 = e.1 in
          let d : v ≡ s = omega arith in
          f (subst₂ (λ (x y : ℕ). SatisfiesAll (G (merge x y h)) invs) e.0 d sat)
    ]

-- the merges with one more
merges-more : (p q : ℕ) (run_log : RunLists) → merges_of (with_merge p q run_log) ≡ merges_of run_log ++ record { p = p; q = q } ∷ []
merges-more p q run_log = map-append merge_of run_log.merges (record { p = p; q = q } ∷ [])

-- a turn decides the next pair
pub coarsening-turn : (invs : List Invariant) (old now new : Parts) (p q r s : ℕ) (run_log run_log' : RunLists) → HasIds now → IsCoarsening invs old now p q (merges_of run_log)
    → IsNextPair (G now.traces) p q r s → IsDecided invs now new run_log run_log' r s → IsCoarsening invs old new r s (merges_of run_log')
coarsening-turn invs old now new p q r s run_log run_log' ids c n (inl d) =
    subst (λ (x : Parts). IsCoarsening invs old x r s (merges_of run_log')) (sym d.graph)
    (subst (λ (l : RunLists). IsCoarsening invs old now r s (merges_of l)) (sym d.told)
    (record {
      so_far = c.so_far;
      used = c.used;
      lost = lost-too invs now.traces r s (lost-between invs now.traces p q r s c.lost n) d.lost;
      satisfied = c.satisfied;
      few = c.few;
    }))
coarsening-turn invs old now new p q r s run_log run_log' ids c n (inr d) =
    let m : Merge = record { p = r; q = s } in
    let o : IsNextMerge invs now.traces m × LostBefore invs (merge r s now.traces) r (s + 1) × IsTyped (merge r s now.traces) =
    one_pass_merges invs now.traces r s ids.typed n.pair (lost-between invs now.traces p q r s c.lost n) d.keeps in
    let f : suc (live_count now.used (merge r s now.traces)) ≤ live_count now.used now.traces = fewer-live now.traces now.used r s ids.two ids.below n.pair in
    let f' : suc (live_count old.used (merge r s now.traces)) ≤ live_count old.used now.traces =
    subst (λ (x : ℕ). suc (live_count x (merge r s now.traces)) ≤ live_count x now.traces) c.used f in
    let len : length (merges_of run_log ++ m ∷ []) ≡ length (merges_of run_log) + 1 = length-append (merges_of run_log) (m ∷ []) in
    let w : length (merges_of run_log) + live_count old.used now.traces ≤ live_count old.used old.traces = c.few in
    subst (λ (x : Parts). IsCoarsening invs old x r s (merges_of run_log')) (sym d.graph)
    (subst (λ (l : RunLists). IsCoarsening invs old (joined r s now) r s (merges_of l)) (sym d.told)
    (subst (λ (ms : List Merge). IsCoarsening invs old (joined r s now) r s ms) (sym (merges-more r s run_log))
    (record {
      so_far = merges-push invs (merges_of run_log) m old.traces now.traces c.so_far o.0;
      used = c.used;
      lost = o.1;
      satisfied = d.keeps;
      few = omega arith;
    })))

-- there are fewer merges than the run's log has room for
pub coarsening-few : (invs : List Invariant) (old now : Parts) (p q r s : ℕ) (ms : List Merge) → HasIds now → IsCoarsening invs old now p q ms → IsPair (G now.traces) r s → length ms < 1022
coarsening-few invs old now p q r s ms ids c i =
    let f : suc (live_count now.used (merge r s now.traces)) ≤ live_count now.used now.traces = fewer-live now.traces now.used r s ids.two ids.below i in
    let f' : suc (live_count old.used (merge r s now.traces)) ≤ live_count old.used now.traces =
    subst (λ (x : ℕ). suc (live_count x (merge r s now.traces)) ≤ live_count x now.traces) c.used f in
    let l : live_count old.used old.traces ≤ old.used - 2 = live-few old.used old.traces in
    let u : now.used ≡ old.used = c.used in
    let m : now.used ≤ MAX_PARTITIONS = ids.limit in
    let w : length ms + live_count old.used now.traces ≤ live_count old.used old.traces = c.few in
    omega arith

-- behind the last pair coarsening has ended
pub coarsening-end : (invs : List Invariant) (old now : Parts) (p q : ℕ) (ms : List Merge) → IsCoarsening invs old now p q ms → HasNoPairBehind (G now.traces) p q → Coarsens invs old.traces ms now.traces
coarsening-end invs old now p q ms c n = merges-end invs ms old.traces now.traces c.so_far (lost-behind invs now.traces p q c.lost n)

-- a turn changes nothing of the run's log but its merges
pub others-turn : (invs : List Invariant) (old new : Parts) (first run_log run_log' : RunLists) (p q : ℕ) → run_log ≡ record first { merges = run_log.merges } → IsDecided invs old new run_log run_log' p q
    → run_log' ≡ record first { merges = run_log'.merges }
others-turn invs old new first run_log run_log' p q e (inl d) = subst (λ (l : RunLists). l ≡ record first { merges = l.merges }) (sym d.told) e
others-turn invs old new first run_log run_log' p q e (inr d) =
    subst (λ (l : RunLists). l ≡ record first { merges = l.merges }) (sym d.told)
    (ap (λ (l : RunLists). record l { merges = run_log.merges ++ record { p = p; q = q } ∷ [] }) e)

-- the run's log tells as many merges as it has
pub merge-count : (run_log : RunLists) → length (merges_of run_log) ≡ length run_log.merges
merge-count run_log = length-map run_log.merges merge_of

-- 1 where a pair stays apart
abbrev pub kept : Bool → ℕ
kept true = 1
kept false = 0

-- each merge, and the first pair that stays apart, are of pairs that there were, and others are still to come
pub record IsCounted (old now : Parts) (p q merges : ℕ) (apart : Bool) : Type 0 where
  pub rest : List Merge
  pub covers : Covers (G now.traces) p q rest
  pub few : merges + kept apart + length rest ≤ pair_count old
  -- where no pair stays apart, each that there is comes behind
  pub behind : apart ≡ false → (u v : ℕ) → IsPair (G now.traces) u v → PairBefore p q u v

all-behind : (h : Assignment) (u v : ℕ) → IsPair (G h) u v → PairBefore 2 2 u v
all-behind h u v i =
    let l : 2 ≤ u = i.low in
    let o : u < v = i.order in
    elim (cases_lt 2 u) [ inl k ↦ inl k | inr k ↦ inr (omega arith, omega arith) ]

-- so it is before the first pair
pub counting-start : (parts : Parts) → HasIds parts → IsCounted parts parts 2 2 0 false
counting-start parts ids =
    record {
      rest = pairs_below parts.used (G parts.traces);
      covers = covers-start (G parts.traces) parts.used (graphs_are_below parts.traces parts.used ids.two ids.below);
      few = omega arith;
      behind = λ e u v i. all-behind parts.traces u v i;
    }

kept-or : (apart : Bool) → kept (apart || true) ≤ kept apart + 1
kept-or true = omega arith
kept-or false = omega arith

or-false : (apart : Bool) → (apart || false) ≡ apart
or-false true = refl
or-false false = refl

never : (apart : Bool) → (apart || true) ≡ false → ⊥
never true e = true≢false e
never false e = true≢false e

-- a pair that was merged is none any more, and all others come behind it
merged-behind : (h : Assignment) (p q r s u v : ℕ) → IsTyped h → IsNextPair (G h) p q r s → ((x y : ℕ) → IsPair (G h) x y → PairBefore p q x y) → IsPair (G (merge r s h)) u v → PairBefore r s u v
merged-behind h p q r s u v t n b i =
    let j : IsPair (G h) u v = pair-back h r s u v t n.pair i in
    let l : 2 ≤ u = j.low in
    let o : u < v = j.order in
    elim (cases_lt r u) [
      | inl k ↦ inl k
      | inr k ↦ elim (cases_lt u r) [
        | inl m ↦ absurd (n.first u v j (b u v j) (inl m))
        | inr m ↦ elim (cases_lt s v) [
          | inl w ↦ inr (omega arith, w)
          | inr w ↦ elim (cases_lt v s) [
            | inl x ↦ absurd (n.first u v j (b u v j) (inr (omega arith, x)))
            | inr x ↦ let same : v ≡ s = omega arith in absurd (gone h r s v n.pair (omega arith) i.has_q same)
          ]
        ]
      ]
    ]

counting-apart : (old now : Parts) (p q r s m : ℕ) (apart : Bool) → IsCounted old now p q m apart → IsNextPair (G now.traces) p q r s → IsCounted old now r s m (apart || true)
counting-apart old now p q r s m apart c n =
    let o : (more : List Merge) × (length more < length c.rest) × Covers (G now.traces) r s more = covers-next (G now.traces) p q r s c.rest c.covers n.pair n.behind in
    record { rest = o.0; covers = o.2; few = omega (arith, o.1, c.few, kept-or apart); behind = λ e u v i. absurd (never apart e) }

counting-merged : (old now : Parts) (p q r s m : ℕ) (apart : Bool) → HasIds now → IsCounted old now p q m apart → IsNextPair (G now.traces) p q r s → IsCounted old (joined r s now) r s (m + 1) (apart || false)
counting-merged old now p q r s m apart ids c n =
    let o : (more : List Merge) × (length more < length c.rest) × Covers (G now.traces) r s more = covers-next (G now.traces) p q r s c.rest c.covers n.pair n.behind in
    record {
      rest = o.0;
      covers = covers-merged now.traces r s r s o.0 ids.typed n.pair o.2;
      few = omega (arith, o.1, c.few, ap kept (or-false apart));
      behind = λ e u v i. merged-behind now.traces p q r s u v ids.typed n (c.behind (sym (or-false apart) ∙ e)) i;
    }

-- and behind the next pair, whether it was merged or stays apart
pub counting-turn : (invs : List Invariant) (old now new : Parts) (p q r s : ℕ) (run_log run_log' : RunLists) (apart : Bool) (marked : Marked) → HasIds now → IsCounted old now p q (length run_log.merges) apart
    → IsNextPair (G now.traces) p q r s → IsDecided invs now new run_log run_log' r s → length run_log'.merges ≡ length run_log.merges + owed marked
    → IsCounted old new r s (length run_log'.merges) (apart || stays_apart marked)
counting-turn invs old now new p q r s run_log run_log' apart Now ids c n (inl d) e =
    subst (λ (x : Parts). IsCounted old x r s (length run_log'.merges) (apart || true)) (sym d.graph)
    (subst (λ (m : ℕ). IsCounted old now r s m (apart || true)) (sym (ap (λ (l : RunLists). length l.merges) d.told))
    (counting-apart old now p q r s (length run_log.merges) apart c n))
counting-turn invs old now new p q r s run_log run_log' apart Nothing ids c n (inl d) e = absurd (omega (arith, e, ap (λ (l : RunLists). length l.merges) d.told))
counting-turn invs old now new p q r s run_log run_log' apart (Before x) ids c n (inl d) e = absurd (omega (arith, e, ap (λ (l : RunLists). length l.merges) d.told))
counting-turn invs old now new p q r s run_log run_log' apart Now ids c n (inr d) e =
    absurd (omega (arith, e, ap (λ (l : RunLists). length l.merges) d.told, length-append run_log.merges (record { p = r; q = s } ∷ [])))
counting-turn invs old now new p q r s run_log run_log' apart Nothing ids c n (inr d) e =
    subst (λ (x : Parts). IsCounted old x r s (length run_log'.merges) (apart || false)) (sym d.graph)
    (subst (λ (m : ℕ). IsCounted old (joined r s now) r s m (apart || false)) (sym e) (counting-merged old now p q r s (length run_log.merges) apart ids c n))
counting-turn invs old now new p q r s run_log run_log' apart (Before x) ids c n (inr d) e =
    subst (λ (x : Parts). IsCounted old x r s (length run_log'.merges) (apart || false)) (sym d.graph)
    (subst (λ (m : ℕ). IsCounted old (joined r s now) r s m (apart || false)) (sym e) (counting-merged old now p q r s (length run_log.merges) apart ids c n))

-- where no pair stays apart, the last one that was looked at was merged
pub owed-turn : (apart : Bool) (marked : Marked) → (apart || stays_apart marked) ≡ false → owed marked ≡ 1
owed-turn apart Nothing e = refl
owed-turn apart (Before pair) e = refl
owed-turn apart Now e = absurd (never apart e)

-- and in the end none is left
pub none-left : (old now : Parts) (p q m : ℕ) → HasIds now → IsCounted old now p q m false → HasNoPairBehind (G now.traces) p q → pair_count now ≡ 0
none-left old now p q m ids c n =
    ap (λ (ms : List Merge). length ms)
    (remain-none (G now.traces) 2 2 (pairs_below now.used (G now.traces)) (remain-start (G now.traces) now.used (graphs_are_below now.traces now.used ids.two ids.below))
    (λ u v i k. n u v i (c.behind refl u v i)))
