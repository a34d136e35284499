-- One pass over the pairs.
use Rattle.partition_model.specs.Assignments.{renamed_event}
use Rattle.partition_model.specs.Coarsening.{onto}
use Rattle.std.proofs.Common.{◌≡◌, ◌≢◌, ℕ, ◌+◌, ◌<◌, ◌≤◌, ◌||◌, nat_lt, true, false, List, [], ◌∷◌, map, sym, ◌∙◌, ap, subst, subst₂, inl, inr, arith, lt-ltb, ltb-true, le-ltb}
use Rattle.std.proofs.lemmas.Bool.{cases_eq}
use Rattle.invariants.specs.declared.Invariant.{Invariant}
use Rattle.partition_model.specs.Assignments.{Event, Assignment, events, G, IsTyped, type_of, members}
use Rattle.partition_model.specs.Refinement.{SatisfiesAll}
use Rattle.invariants.specs.declared.records.Merge.{Merge}
use Rattle.partition_model.specs.Coarsening.{merge, merged_by, IsPair, PairBefore, IsNextMerge, Coarsens}
use Rattle.partition_model.specs.Laws.{LostThroughMerges, OnePassMerges, PairsAscend, IsAmong, Passes, OnePassCoarsens}
use Rattle.partition_model.proofs.Lists.{In, In-map, member-of, count-member}
use Rattle.partition_model.proofs.Naming.{events-renamed, typed_from, type_known}
use Rattle.partition_model.proofs.Merging.{onto_is, onto_other, merge_typed, gone, lost_stays_lost}

-- a live id of at least 2 has an event
pub live-member : (h : Assignment) (r : ℕ) → 2 ≤ r → (G h).listed r ≡ true → (e : Event) × In e (events h) × (e.id ≡ r)
live-member h r l k =
    let f : nat_lt r 2 ≡ false = le-ltb r 2 l in
    let c : (nat_lt r 2 || nat_lt 0 (members h r)) ≡ true = k in
    member-of r (events h) (ltb-true 0 (members h r) (rw f at c))

-- an id of at least 2 that has an event is live
pub member-live : (h : Assignment) (r : ℕ) → 2 ≤ r → (e : Event) → In e (events h) → e.id ≡ r → (G h).listed r ≡ true
member-live h r l e i q =
    let f : nat_lt r 2 ≡ false = le-ltb r 2 l in
    rw f (lt-ltb 0 (members h r) (count-member r e (events h) i q))

-- an id that is live after a merge was live before it
pub live-back : (h : Assignment) (p q r : ℕ) → IsPair (G h) p q → 2 ≤ r → (G (merge p q h)).listed r ≡ true → (G h).listed r ≡ true
live-back h p q r i l k =
    let o : (e : Event) × In e (events (merge p q h)) × (e.id ≡ r) = live-member (merge p q h) r l k in
    let j : In o.0 (map (renamed_event (onto p q)) (events h)) = subst (λ (es : List Event). In o.0 es) (events-renamed (onto p q) h) o.1 in
    let b : (d : Event) × In d (events h) × (renamed_event (onto p q) d ≡ o.0) = In-map (renamed_event (onto p q)) o.0 (events h) j in
    let u : onto p q b.0.id ≡ r = ap (λ (x : Event). x.id) b.2 ∙ o.2 in
    elim (cases_eq b.0.id q) [
      | inl s ↦ subst (λ (x : ℕ). (G h).listed x ≡ true) (sym (onto_is p q b.0.id s) ∙ u) i.has_p
      | inr s ↦ member-live h r l b.0 b.1 (sym (onto_other p q b.0.id s) ∙ u)
    ]

-- and it has its type from before
pub type-back : (h : Assignment) (p q r : ℕ) → IsTyped h → IsPair (G h) p q → 2 ≤ r → (G (merge p q h)).listed r ≡ true → type_of (merge p q h) r ≡ type_of h r
type-back h p q r t i l k =
    let o : (e : Event) × In e (events (merge p q h)) × (e.id ≡ r) = live-member (merge p q h) r l k in
    subst (λ (x : ℕ). type_of (merge p q h) x ≡ type_of h x) o.2 (type_known (λ x. type_of h x) (merge p q h) (merge_typed h p q t i) o.0 o.1)

-- a pair of one type after a merge was one before it
pub pair-back : (h : Assignment) (p q r s : ℕ) → IsTyped h → IsPair (G h) p q → IsPair (G (merge p q h)) r s → IsPair (G h) r s
pair-back h p q r s t i j =
    let l : 2 ≤ r = j.low in
    let m : r < s = j.order in
    let l' : 2 ≤ s = omega arith in
    record {
      low = l;
      order = m;
      has_p = live-back h p q r i l j.has_p;
      has_q = live-back h p q s i l' j.has_q;
      types = sym (type-back h p q r t i l j.has_p) ∙ j.types ∙ type-back h p q s t i l' j.has_q;
    }

-- a merge that keeps every invariant, where each pair before it was lost, is the next one, and each pair before it stays lost
pub one_pass_merges : OnePassMerges
one_pass_merges invs h p q t i lost keeps = (
  record { pair = i; keeps = keeps; first = λ r s j b. lost r s j b },
  λ r s j b sat.
      let j' : IsPair (G h) r s = pair-back h p q r s t i j in
      let rl : 2 ≤ r = j.low in
      let ro : r < s = j.order in
      let sq : s ≢ q = gone h p q s i (omega arith) j.has_q in
      lost r s j' (before r s b sq) (lost_stays_lost h p q r s t i j invs sat),
  typed_from (λ x. type_of h x) (merge p q h) (merge_typed h p q t i),
)
  where
    before : (r s : ℕ) → PairBefore r s p (q + 1) → s ≢ q → PairBefore r s p q
    before r s (inl l) n = inl l
    before r s (inr e) n = inr (e.0, (let l : s < q + 1 = e.1 in omega arith))

-- after any number of merges, a pair whose merge loses an invariant still loses it
pub lost_through_merges : LostThroughMerges
lost_through_merges invs h [] r s t a j = (j, λ sat. sat)
lost_through_merges invs h (m ∷ ms) r s t a j =
    let t' : IsTyped (merge m.p m.q h) = typed_from (λ x. type_of h x) (merge m.p m.q h) (merge_typed h m.p m.q t a.0) in
    let o : IsPair (G (merge m.p m.q h)) r s × (SatisfiesAll (G (merge r s (merged_by ms (merge m.p m.q h)))) invs → SatisfiesAll (G (merge r s (merge m.p m.q h))) invs) =
    lost_through_merges invs (merge m.p m.q h) ms r s t' a.1 j in
    (pair-back h m.p m.q r s t a.0 o.0, λ sat. lost_stays_lost h m.p m.q r s t a.0 o.0 invs (o.1 sat))

-- a pair that is smaller than the first of an ascending list is not in it
before-all : (r s p q : ℕ) (ms : List Merge) → PairBefore r s p q → PairsAscend p q ms → IsAmong r s ms → ⊥
before-all r s p q [] b a i = i
before-all r s p q (m ∷ ms) b a (inl e) = absurd (not-twice b a.0 e)
  where
    not-twice : PairBefore r s p q → PairBefore p q m.p m.q → (m.p ≡ r) × (m.q ≡ s) → ⊥
    not-twice (inl l) (inl k) e = absurd (omega arith)
    not-twice (inl l) (inr k) e = absurd (omega arith)
    not-twice (inr l) (inl k) e = absurd (omega arith)
    not-twice (inr l) (inr k) e = absurd (omega arith)
before-all r s p q (m ∷ ms) b a (inr i) = before-all r s m.p m.q ms (then-before b a.0) a.1 i
  where
    then-before : PairBefore r s p q → PairBefore p q m.p m.q → PairBefore r s m.p m.q
    then-before (inl l) (inl k) = inl (omega arith)
    then-before (inl l) (inr k) = inl (omega arith)
    then-before (inr l) (inl k) = inl (omega arith)
    then-before (inr l) (inr k) = inr (l.0 ∙ k.0, omega arith)

-- what is not among the pairs to come is lost
abbrev LostOutside : List Invariant → Assignment → List Merge → Type 0
LostOutside invs h rest = (r s : ℕ) → IsPair (G h) r s → (IsAmong r s rest → ⊥) → SatisfiesAll (G (merge r s h)) invs → ⊥

-- one pass over what is left of the pairs makes the rest of the run
passes : (invs : List Invariant) (pairs : List Merge) (h : Assignment) (p q : ℕ) (merges : List Merge) (end : Assignment) → IsTyped h
    → PairsAscend p q pairs → LostOutside invs h pairs → Passes invs h pairs merges end → Coarsens invs h merges end
passes invs [] h p q merges end t a lost w =
    subst (λ (ms : List Merge). Coarsens invs h ms end) (sym w.0) ((λ r s i sat. lost r s i (λ n. n) sat), w.1)
passes invs (m ∷ rest) h p q merges end t a lost (inl w) =
    let i : IsPair (G h) m.p m.q = w.0 in
    let t' : IsTyped (merge m.p m.q h) = typed_from (λ x. type_of h x) (merge m.p m.q h) (merge_typed h m.p m.q t i) in
    let next : IsNextMerge invs h m = record { pair = i; keeps = w.1; first = λ r s j b. lost r s j (λ n. elim n [ inl e ↦ same r s b e | inr k ↦ before-all r s m.p m.q rest b a.1 k ]) } in
    let out : LostOutside invs (merge m.p m.q h) rest = λ r s j n sat.
    (let rl : 2 ≤ r = j.low in
    let ro : r < s = j.order in
    let sq : s ≢ m.q = gone h m.p m.q s i (omega arith) j.has_q in
    lost r s (pair-back h m.p m.q r s t i j) (λ k. elim k [ inl e ↦ sq (sym e.1) | inr k ↦ n k ]) (lost_stays_lost h m.p m.q r s t i j invs sat)) in
    let c : Coarsens invs (merge m.p m.q h) w.2.0 end = passes invs rest (merge m.p m.q h) m.p m.q w.2.0 end t' a.1 out w.2.2 in
    subst (λ (ms : List Merge). Coarsens invs h ms end) (sym w.2.1) (next, c)
  where
    same : (r s : ℕ) → PairBefore r s m.p m.q → (m.p ≡ r) × (m.q ≡ s) → ⊥
    same r s (inl l) e = absurd (omega arith)
    same r s (inr l) e = absurd (omega arith)
passes invs (m ∷ rest) h p q merges end t a lost (inr w) =
    let out : LostOutside invs h rest = λ r s j n sat.
    elim (cases_eq m.p r) [
      | inl e ↦ elim (cases_eq m.q s) [
        | inl f ↦ w.0 (subst₂ (λ (x y : ℕ). IsPair (G h) x y) (sym e) (sym f) j) (subst₂ (λ (x y : ℕ). SatisfiesAll (G (merge x y h)) invs) (sym e) (sym f) sat)
        | inr f ↦ lost r s j (λ k. elim k [ inl g ↦ f g.1 | inr g ↦ n g ]) sat
      ]
      | inr e ↦ lost r s j (λ k. elim k [ inl g ↦ e g.0 | inr g ↦ n g ]) sat
    ] in
    passes invs rest h m.p m.q merges end t a.1 out w.1

-- one pass over all pairs makes the whole run of coarsening
pub one_pass_coarsens : OnePassCoarsens
one_pass_coarsens invs h pairs merges end t a all w = passes invs pairs h 0 0 merges end t a (λ r s j n sat. n (all r s j)) w
