-- Runs on traces that are the same, in whichever order and however often.
use Rattle.std.proofs.Common.{◌≡◌, ℕ, suc, ◌+◌, ◌≤◌, List, [], ◌∷◌, map, slice_index, sym, refl, subst, arith}
use Rattle.invariants.specs.declared.Invariant.{Invariant}
use Rattle.invariants.specs.declared.records.Split.{Split}
use Rattle.invariants.specs.declared.records.Merge.{Merge}
use Rattle.partition_model.specs.Graphs.{Graph}
use Rattle.partition_model.specs.Assignments.{Event, Assignment, G, IsTyped, renamed_event}
use Rattle.partition_model.specs.Refinement.{split, split_trace, after_split, SatisfiesAll, Refines, Splits}
use Rattle.partition_model.specs.Coarsening.{merge, merged_by, onto, IsPair, IsNextMerge, NoMerge, Coarsens}
use Rattle.partition_model.specs.Laws.{HoldAll, IsRun}
use Rattle.partition_model.proofs.Lists.{In, In-map, map-In}
use Rattle.models.specs.Histories.{split_by}
use Rattle.infer_core.proofs.Sharing.{Alike, graph-over, next-split-over, run-on, typed-merge, pair-over}

-- what changes each trace by itself leaves them the same
pub alike-map : {X : Type 0} (f : X → List Event) (us vs : List X) → ((x : X) → In x us → In x vs) → ((x : X) → In x vs → In x us) → Alike (map f us) (map f vs)
alike-map {X} f us vs to from = record {
  to = λ t i. let o : (x : X) × In x us × (f x ≡ t) = In-map f t us i in subst (λ (s : List Event). In s (map f vs)) o.2 (map-In f o.0 vs (to o.0 o.1));
  from = λ t i. let o : (x : X) × In x vs × (f x ≡ t) = In-map f t vs i in subst (λ (s : List Event). In s (map f us)) o.2 (map-In f o.0 us (from o.0 o.1));
}

-- so does a split
alike-split : (p q n : ℕ) (h k : Assignment) → Alike h k → Alike (split p q n h) (split p q n k)
alike-split p q n h k a = alike-map (λ (trace : List Event). split_trace p q n trace) h k a.to a.from

-- and a merge
alike-merge : (p q : ℕ) (h k : Assignment) → Alike h k → Alike (merge p q h) (merge p q k)
alike-merge p q h k a = alike-map (λ (trace : List Event). map (renamed_event (onto p q)) trace) h k a.to a.from

-- the whole refinement of the one is that of the other
pub refines-alike : (words : List (List ℕ)) (invs : List Invariant) (splits : List Split) (h k : Assignment) (n : ℕ) (end : Assignment) → Alike h k → IsRun words h n → 2 ≤ n → HoldAll words invs
    → Refines invs h n splits end → Refines invs k n splits (split_by n splits k) × Alike end (split_by n splits k)
refines-alike words invs [] h k n end a r l o w =
    ((subst (λ (x : Graph). SatisfiesAll x invs) (graph-over h k a r.typed) w.0, refl), subst (λ (x : Assignment). Alike x k) (sym w.1) a)
refines-alike words invs (s ∷ ss) h k n end a r l o w =
    let p : ℕ = slice_index s.path s.place in
    let q : ℕ = slice_index s.path (s.place + 1) in
    let i : Refines invs (after_split n s k) (suc n) ss (split_by (suc n) ss (after_split n s k)) × Alike end (split_by (suc n) ss (after_split n s k)) =
    refines-alike words invs ss (after_split n s h) (after_split n s k) (suc n) end (alike-split p q n h k a) (run-on words invs h n s r l o w.0) (omega arith) o w.1 in
    ((next-split-over invs h k s a r.typed w.0, i.0), i.1)

-- and so are the first splits
pub splits-alike : (words : List (List ℕ)) (invs : List Invariant) (splits : List Split) (h k : Assignment) (n : ℕ) (end : Assignment) → Alike h k → IsRun words h n → 2 ≤ n → HoldAll words invs
    → Splits invs h n splits end → Splits invs k n splits (split_by n splits k) × Alike end (split_by n splits k)
splits-alike words invs [] h k n end a r l o w = (refl, subst (λ (x : Assignment). Alike x k) (sym w) a)
splits-alike words invs (s ∷ ss) h k n end a r l o w =
    let p : ℕ = slice_index s.path s.place in
    let q : ℕ = slice_index s.path (s.place + 1) in
    let i : Splits invs (after_split n s k) (suc n) ss (split_by (suc n) ss (after_split n s k)) × Alike end (split_by (suc n) ss (after_split n s k)) =
    splits-alike words invs ss (after_split n s h) (after_split n s k) (suc n) end (alike-split p q n h k a) (run-on words invs h n s r l o w.0) (omega arith) o w.1 in
    ((next-split-over invs h k s a r.typed w.0, i.0), i.1)

-- a merge leaves both with one graph
merged-alike : (h k : Assignment) (p q : ℕ) → Alike h k → IsTyped h → IsPair (G h) p q → G (merge p q h) ≡ G (merge p q k)
merged-alike h k p q a t i = graph-over (merge p q h) (merge p q k) (alike-merge p q h k a) (typed-merge h p q t i)

-- they have the same next merge
next-merge-alike : (invs : List Invariant) (h k : Assignment) (m : Merge) → Alike h k → IsTyped h → IsNextMerge invs h m → IsNextMerge invs k m
next-merge-alike invs h k m a t w =
    record {
      pair = subst (λ (x : Graph). IsPair x m.p m.q) (graph-over h k a t) w.pair;
      keeps = subst (λ (x : Graph). SatisfiesAll x invs) (merged-alike h k m.p m.q a t w.pair) w.keeps;
      first = λ r s i before sat.
          let j : IsPair (G h) r s = pair-over h k a t r s i in
          w.first r s j before (subst (λ (x : Graph). SatisfiesAll x invs) (sym (merged-alike h k r s a t j)) sat);
    }

no-merge-alike : (invs : List Invariant) (h k : Assignment) → Alike h k → IsTyped h → NoMerge invs h → NoMerge invs k
no-merge-alike invs h k a t w p q i sat =
    let j : IsPair (G h) p q = pair-over h k a t p q i in
    w p q j (subst (λ (x : Graph). SatisfiesAll x invs) (sym (merged-alike h k p q a t j)) sat)

-- the whole coarsening of the one is that of the other
pub coarsens-alike : (invs : List Invariant) (merges : List Merge) (h k end : Assignment) → Alike h k → IsTyped h
    → Coarsens invs h merges end → Coarsens invs k merges (merged_by merges k) × Alike end (merged_by merges k) × IsTyped end
coarsens-alike invs [] h k end a t w = (
  (no-merge-alike invs h k a t w.0, refl),
  subst (λ (x : Assignment). Alike x k) (sym w.1) a,
  subst (λ (x : Assignment). IsTyped x) (sym w.1) t,
)
coarsens-alike invs (m ∷ ms) h k end a t w =
    let i : Coarsens invs (merge m.p m.q k) ms (merged_by ms (merge m.p m.q k)) × Alike end (merged_by ms (merge m.p m.q k)) × IsTyped end =
    coarsens-alike invs ms (merge m.p m.q h) (merge m.p m.q k) end (alike-merge m.p m.q h k a) (typed-merge h m.p m.q t w.0.pair) w.1 in
    ((next-merge-alike invs h k m a t w.0, i.0), i.1, i.2)

-- the end of a refinement is where its splits lead
pub splits-end : (invs : List Invariant) (splits : List Split) (h : Assignment) (n : ℕ) (end : Assignment) → Refines invs h n splits end → end ≡ split_by n splits h
splits-end invs [] h n end w = w.1
splits-end invs (s ∷ ss) h n end w = splits-end invs ss (after_split n s h) (suc n) end w.1

-- the end of a coarsening is where its merges lead
pub merges-end : (invs : List Invariant) (merges : List Merge) (h end : Assignment) → Coarsens invs h merges end → end ≡ merged_by merges h
merges-end invs [] h end w = w.1
merges-end invs (m ∷ ms) h end w = merges-end invs ms (merge m.p m.q h) end w.1
