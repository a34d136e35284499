-- There is a next split, or each invariant is satisfied.
use Rattle.std.proofs.Common.{◌≡◌, ◌⊎◌, ℕ, suc, ◌+◌, ◌<◌, ◌≤◌, List, [], ◌∷◌, slice_get, Some, refl, subst, inl, inr, arith}
use Rattle.std.specs.List.{AllByRecursion}
use Rattle.invariants.specs.declared.Invariant.{Invariant}
use Rattle.invariants.specs.Holds.{Holds}
use Rattle.partition_model.specs.Graphs.{Graph, Satisfies, IsLeastViolation, IsFormed}
use Rattle.partition_model.specs.Assignments.{Event, Assignment, G, events, word_of}
use Rattle.partition_model.specs.Listings.{AreBelow}
use Rattle.partition_model.specs.Refinement.{SatisfiesAll, IsFirstBroken, stitch}
use Rattle.partition_model.specs.Laws.{IsFresh}
use Rattle.partition_model.proofs.Lists.{all_in, all_from}
use Rattle.partition_model.proofs.Forming.{graphs_are_formed}
use Rattle.partition_model.proofs.Runs.{broken, next-run, fresh-run, traces-hold}
use Rattle.partition_model.proofs.Stitching.{stitch_divides}
use Rattle.partition_bounds.specs.Laws.{IsBelow}
use Rattle.partition_model.proofs.Unique.{none-broken}
use Rattle.partition_bounds.proofs.Merges.{graphs_are_below}
use Rattle.refinement_end.specs.Laws.{HasNext, SatisfiedOrSplit, NextSplitExists, NextSplitDivides}
use Rattle.refinement_end.proofs.Violations.{satisfied_or_violated}

-- the ids of events have a bound
bound-of : (es : List Event) → (n : ℕ) × (2 ≤ n) × AllByRecursion (λ e. e.id < n) es
bound-of [] = (2, omega arith, tt)
bound-of (e ∷ es) =
    let o : (n : ℕ) × (2 ≤ n) × AllByRecursion (λ e. e.id < n) es = bound-of es in
    let two : 2 ≤ o.0 = o.1 in (
      o.0 + suc e.id,
      omega arith,
      (omega arith, all_from (λ d. d.id < o.0 + suc e.id) es (λ d i. let l : d.id < o.0 = all_in (λ d. d.id < o.0) d es o.2 i in omega arith)),
    )

-- the first invariant of the list that is broken, with its least violation
record IsBroken (g : Graph) (invs : List Invariant) (k : ℕ) (inv : Invariant) (path : List ℕ) : Type 0 where
  first : IsFirstBroken g invs k
  there : slice_get invs k ≡ Some inv
  least : IsLeastViolation g inv path

-- there is one
abbrev SomeBroken : Graph → List Invariant → Type 0
SomeBroken g invs = (k : ℕ) × (inv : Invariant) × (path : List ℕ) × IsBroken g invs k inv path

-- each invariant of the list is satisfied, or one is the first that is broken
satisfied-or-broken : (g : Graph) (n : ℕ) → IsFormed g → IsBelow n g → (invs : List Invariant) → SatisfiesAll g invs ⊎ SomeBroken g invs
satisfied-or-broken g n f below [] = inl tt
satisfied-or-broken g n f below (inv ∷ invs) =
    elim (satisfied_or_violated g inv n f below) [
      | inl s ↦ elim (satisfied-or-broken g n f below invs) [
        | inl all ↦ inl (s, all)
        | inr o ↦ inr (suc o.0, o.1, o.2, record { first = (s, o.3.first); there = o.3.there; least = o.3.least })
      ]
      | inr v ↦ inr (0, inv, v.0, record { first = λ s. v.1.breaks.1 (s v.0 v.1.breaks.0); there = refl; least = v.1 })
    ]

-- the split by the least violation of the first invariant that is broken is the next one
next-by : (invs : List Invariant) (h : Assignment) → SomeBroken (G h) invs → HasNext invs h
next-by invs h o = (
  record { inv = o.0; place = stitch h o.2; path = o.2 },
  record {
    first = o.3.first;
    least = λ inv e. least inv e;
    place = refl;
  },
)
  where
    least : (inv : Invariant) → slice_get invs o.0 ≡ Some inv → IsLeastViolation (G h) inv o.2
    least inv e =
        let t : slice_get invs o.0 ≡ Some o.1 = o.3.there in
        let q : o.1 ≡ inv = cc in
        subst (λ (i : Invariant). IsLeastViolation (G h) i o.2) q o.3.least

-- the graph satisfies each invariant of the list, or there is a next split
pub satisfied_or_split : SatisfiedOrSplit
satisfied_or_split invs h t =
    let b : (n : ℕ) × (2 ≤ n) × AreBelow n h = bound-of (events h) in
    elim (satisfied-or-broken (G h) b.0 (graphs_are_formed h t) (graphs_are_below h b.0 b.1 b.2) invs) [
      | inl s ↦ inl s
      | inr o ↦ inr (next-by invs h o)
    ]

-- so there is a next split exactly if it does not satisfy them all
pub next_split_exists : NextSplitExists
next_split_exists invs h t = (
  λ o s. none-broken (G h) invs o.0.inv s o.1.first,
  λ n. elim (satisfied_or_split invs h t) [ inl s ↦ absurd (n s) | inr o ↦ o ],
)

-- in a state of refinement the next split divides
pub next_split_divides : NextSplitDivides
next_split_divides invs words h n s r l a i =
    let b : (inv : Invariant) × (slice_get invs s.inv ≡ Some inv) × (Satisfies (G h) inv → ⊥) = broken (G h) invs s.inv i.first in
    let v : IsLeastViolation (G h) b.0 s.path = i.least b.0 b.1 in
    let f : IsFresh n h = fresh-run words h n r l in
    let hold : AllByRecursion (λ trace. Holds b.0 (word_of trace)) h = traces-hold words h n b.0 invs s.inv r a b.1 in
    (stitch_divides h b.0 s.path n r.typed f hold v.breaks, next-run words invs h n s b.0 r l a b.1 v i.place)
