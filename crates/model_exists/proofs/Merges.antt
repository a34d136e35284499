-- Each pair can be merged without loss or has a block, so coarsening ends and blocks exist.
use Rattle.std.proofs.Common.{◌≡◌, ◌⊎◌, ℕ, suc, ◌≤◌, List, [], ◌∷◌, slice_get, Some, sym, refl, ap₂, subst, subst₂, inl, inr}
use Rattle.std.specs.List.{AllByRecursion}
use Rattle.invariants.specs.declared.Invariant.{Invariant}
use Rattle.invariants.specs.declared.records.Merge.{Merge}
use Rattle.invariants.specs.declared.records.Block.{Block}
use Rattle.partition_model.specs.Graphs.{Graph, IsLeastViolation, IsFormed, Merged}
use Rattle.partition_model.specs.Assignments.{Assignment, G, IsTyped, events, type_of}
use Rattle.partition_model.specs.Listings.{AreBelow}
use Rattle.partition_model.specs.Refinement.{SatisfiesAll, IsFirstBroken}
use Rattle.partition_model.specs.Coarsening.{merge, IsPair, NoMerge, Coarsens, IsBlock, AreBlocks}
use Rattle.partition_model.specs.Laws.{Passes}
use Rattle.partition_model.proofs.Lists.{In}
use Rattle.partition_model.proofs.Forming.{graphs_are_formed, merged_are_formed}
use Rattle.partition_model.proofs.Naming.{typed_from}
use Rattle.partition_model.proofs.Merging.{merge_typed}
use Rattle.partition_model.proofs.Keeping.{coarsening_keeps}
use Rattle.partition_model.proofs.Unique.{none-broken, one_coarsening}
use Rattle.partition_bounds.specs.Laws.{IsBelow}
use Rattle.partition_bounds.specs.Pairs.{pair_of, pairs_of, pairs_below}
use Rattle.partition_bounds.proofs.Merges.{graphs_are_below, merged_are_below, merge-below, merges_are_few, pass_coarsens}
use Rattle.partition_bounds.proofs.Pairing.{pairs_tell, In-Among}
use Rattle.partition_bounds.proofs.BlockPairs.{pairs_give_blocks}
use Rattle.partition_bounds.proofs.Blocks.{merge_satisfies}
use Rattle.refinement_end.proofs.Violations.{satisfied_or_violated}
use Rattle.models.proofs.Deciding.{OrNot, pair-or-not}
use Rattle.models.proofs.FirstSteps.{bound-of}
use Rattle.model_exists.specs.Laws.{HasBlock, KeptOrBlocked, HasNextMerge, MergeOrNone, IsWholeCoarsening, CoarseningEnds, HasBlocks, BlocksExist}

-- some invariant of the list is the first that is broken, and it has a least violation
abbrev HasBroken : Graph → List Invariant → Type 0
HasBroken g invs = (k : ℕ) × (path : List ℕ) × IsFirstBroken g invs k × ((inv : Invariant) → slice_get invs k ≡ Some inv → IsLeastViolation g inv path)

-- each invariant of the list is satisfied, or one is the first that is broken
satisfied-or-broken : (g : Graph) (n : ℕ) → IsFormed g → IsBelow n g → (invs : List Invariant) → SatisfiesAll g invs ⊎ HasBroken g invs
satisfied-or-broken g n f below [] = inl tt
satisfied-or-broken g n f below (inv ∷ invs) =
    elim (satisfied_or_violated g inv n f below) [
      | inl s ↦ elim (satisfied-or-broken g n f below invs) [
        | inl all ↦ inl (s, all)
        | inr o ↦ inr (suc o.0, o.1, (s, o.2), o.3)
      ]
      | inr v ↦ inr (
        0,
        v.0,
        (λ s. v.1.breaks.1 (s v.0 v.1.breaks.0)),
        λ i e. (let q : inv ≡ i = cc in subst (λ (x : Invariant). IsLeastViolation g x v.0) q v.1),
      )
    ]

-- so it is in the graph after a merge
merged-cases : (invs : List Invariant) (g : Graph) (p q n : ℕ) → IsFormed g → IsBelow n g → IsPair g p q → SatisfiesAll (Merged g p q) invs ⊎ HasBroken (Merged g p q) invs
merged-cases invs g p q n f below i =
    satisfied-or-broken (Merged g p q) n (merged_are_formed g p q f i.low i.order i.has_p).0 (merged_are_below g p q n below) invs

-- the merge of a pair keeps each invariant, or the pair has a block
pub kept_or_blocked : KeptOrBlocked
kept_or_blocked invs g p q n f below i =
    elim (merged-cases invs g p q n f below i) [
      | inl s ↦ inl s
      | inr o ↦ inr (record { p = p; q = q; inv = o.0; path = o.1 }, record { pair = i; first = o.2; least = o.3 }, refl, refl)
    ]

-- the merge of a pair of an assignment keeps each invariant or not
kept-or-not : (invs : List Invariant) (h : Assignment) (n p q : ℕ) → IsTyped h → 2 ≤ n → AreBelow n h → IsPair (G h) p q → OrNot (SatisfiesAll (G (merge p q h)) invs)
kept-or-not invs h n p q t l b i =
    elim (merged-cases invs (G h) p q n (graphs_are_formed h t) (graphs_are_below h n l b) i) [
      | inl s ↦ inl ((merge_satisfies h p q t i invs).1 s)
      | inr o ↦ inr (λ s. none-broken (Merged (G h) p q) invs o.0 ((merge_satisfies h p q t i invs).0 s) o.2)
    ]

-- a merge leaves events of one id with one type
merged-typed : (h : Assignment) (p q : ℕ) → IsTyped h → IsPair (G h) p q → IsTyped (merge p q h)
merged-typed h p q t i = typed_from (λ x. type_of h x) (merge p q h) (merge_typed h p q t i)

-- one pass over a list of pairs ends
passes-end : (invs : List Invariant) (n : ℕ) (pairs : List Merge) (h : Assignment) → IsTyped h → 2 ≤ n → AreBelow n h → (merges : List Merge) × (end : Assignment) × Passes invs h pairs merges end
passes-end invs n [] h t l b = ([], h, (refl, refl))
passes-end invs n (m ∷ rest) h t l b =
    elim (pair-or-not (G h) m.p m.q) [
      | inl i ↦ elim (kept-or-not invs h n m.p m.q t l b i) [
        | inl s ↦
            let o : (merges : List Merge) × (end : Assignment) × Passes invs (merge m.p m.q h) rest merges end = passes-end invs n rest (merge m.p m.q h) (merged-typed h m.p m.q t i) l (merge-below h n m.p m.q l b i) in
            (m ∷ o.0, o.1, inl (i, s, (o.0, refl, o.2)))
        | inr f ↦
            let o : (merges : List Merge) × (end : Assignment) × Passes invs h rest merges end = passes-end invs n rest h t l b in
            (o.0, o.1, inr ((λ j s. f s), o.2))
      ]
      | inr f ↦
          let o : (merges : List Merge) × (end : Assignment) × Passes invs h rest merges end = passes-end invs n rest h t l b in
          (o.0, o.1, inr ((λ j s. f j), o.2))
    ]

-- pairs that have blocks each have a list of these
pub blocks-of : (invs : List Invariant) (g : Graph) (ms : List Merge) → ((m : Merge) → In m ms → HasBlock invs g m.p m.q) → (bs : List Block) × (pairs_of bs ≡ ms) × AllByRecursion (IsBlock invs g) bs
blocks-of invs g [] f = ([], refl, tt)
blocks-of invs g (m ∷ ms) f =
    let o : HasBlock invs g m.p m.q = f m (inl refl) in
    let r : (bs : List Block) × (pairs_of bs ≡ ms) × AllByRecursion (IsBlock invs g) bs = blocks-of invs g ms (λ x i. f x (inr i)) in
    let e : pair_of o.0.p o.0.q ≡ m = λ d. record { p = o.2 d; q = o.3 d } in
    (o.0 ∷ r.0, ap₂ (λ (x : Merge) (xs : List Merge). x ∷ xs) e r.1, (o.1, r.2))

-- if no merge keeps every invariant, all pairs have blocks
all-blocked : (invs : List Invariant) (h : Assignment) (n : ℕ) → IsTyped h → 2 ≤ n → AreBelow n h → NoMerge invs h → HasBlocks invs (G h)
all-blocked invs h n t l b none = (o.0, pairs_give_blocks invs (G h) n o.0 below o.1 o.2)
  where
    below : IsBelow n (G h)
    below = graphs_are_below h n l b

    is-pair : (m : Merge) → In m (pairs_below n (G h)) → IsPair (G h) m.p m.q
    is-pair m i = ((pairs_tell (G h) n below).1 m.p m.q).1 (In-Among m.p m.q (pairs_below n (G h)) i)

    blocked : (m : Merge) → In m (pairs_below n (G h)) → HasBlock invs (G h) m.p m.q
    blocked m i =
        elim (kept_or_blocked invs (G h) m.p m.q n (graphs_are_formed h t) below (is-pair m i)) [
          | inl s ↦ absurd (none m.p m.q (is-pair m i) ((merge_satisfies h m.p m.q t (is-pair m i) invs).1 s))
          | inr o ↦ o
        ]

    o : (bs : List Block) × (pairs_of bs ≡ pairs_below n (G h)) × AllByRecursion (IsBlock invs (G h)) bs
    o = blocks-of invs (G h) (pairs_below n (G h)) blocked

-- and if all pairs have blocks, no merge keeps every invariant
none-kept : (invs : List Invariant) (h : Assignment) (bs : List Block) → IsTyped h → AreBlocks invs (G h) bs → NoMerge invs h
none-kept invs h bs t a p q i s =
    let w : (k : ℕ) × (b : Block) × (slice_get bs k ≡ Some b) × (b.p ≡ p) × (b.q ≡ q) = a.whole p q i in
    let k : IsBlock invs (G h) w.1 = a.each w.0 w.1 w.2 in
    none-broken (Merged (G h) p q) invs w.1.inv ((merge_satisfies h p q t i invs).0 s)
    (subst₂ (λ (x y : ℕ). IsFirstBroken (Merged (G h) x y) invs w.1.inv) w.3 w.4 k.first)

-- there are blocks of all pairs exactly if no merge keeps every invariant
pub blocks_exist : BlocksExist
blocks_exist invs h t =
    let b : (n : ℕ) × (2 ≤ n) × AreBelow n h = bound-of (events h) in
    (all-blocked invs h b.0 t b.1 b.2, λ o. none-kept invs h o.0 t o.1)

-- the end of a run of merges is typed, and no merge keeps every invariant there
pub merges-lead : (invs : List Invariant) (ms : List Merge) (h end : Assignment) → IsTyped h → Coarsens invs h ms end → IsTyped end × NoMerge invs end
merges-lead invs [] h end t w = (subst (λ (x : Assignment). IsTyped x) (sym w.1) t, subst (λ (x : Assignment). NoMerge invs x) (sym w.1) w.0)
merges-lead invs (m ∷ ms) h end t w = merges-lead invs ms (merge m.p m.q h) end (merged-typed h m.p m.q t w.0.pair) w.1

-- each assignment has one whole run of merges
pub coarsening_ends : CoarseningEnds
coarsening_ends invs h t = (
  passed.0,
  passed.1,
  record {
    run = run;
    alone = λ others other v. one_coarsening invs h passed.0 others passed.1 other run v;
    few = λ n l u. merges_are_few invs h passed.0 passed.1 n l u run;
    typed = led.0;
    blocks = (blocks_exist invs passed.1 led.0).0 led.1;
    keeps = λ words k. (coarsening_keeps invs words h passed.0 passed.1 k run).0;
  },
)
  where
    bound : (n : ℕ) × (2 ≤ n) × AreBelow n h
    bound = bound-of (events h)

    passed : (merges : List Merge) × (end : Assignment) × Passes invs h (pairs_below bound.0 (G h)) merges end
    passed = passes-end invs bound.0 (pairs_below bound.0 (G h)) h t bound.1 bound.2

    run : Coarsens invs h passed.0 passed.1
    run = pass_coarsens invs h bound.0 passed.0 passed.1 bound.1 t bound.2 passed.2

    led : IsTyped passed.1 × NoMerge invs passed.1
    led = merges-lead invs passed.0 h passed.1 t run

-- there is a next merge, or none
pub merge_or_none : MergeOrNone
merge_or_none invs h t =
    let o : (merges : List Merge) × (end : Assignment) × IsWholeCoarsening invs h merges end = coarsening_ends invs h t in
    first o.0 o.1 o.2.run
  where
    first : (merges : List Merge) (end : Assignment) → Coarsens invs h merges end → HasNextMerge invs h ⊎ NoMerge invs h
    first [] end w = inr w.0
    first (m ∷ ms) end w = inl (m, w.0)
