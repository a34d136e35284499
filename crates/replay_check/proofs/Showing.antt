-- The tables of a replay show the graph of the assignment, before a step and after it.
use Rattle.std.proofs.Common.{◌≡◌, ◌≢◌, ◌⊎◌, ◌↔◌, ℕ, zero, suc, ◌+◌, ◌<◌, ◌≤◌, ◌==◌, ◌&&◌, not, cond, if◌then◌else◌, Bool, true, false, List, [], ◌∷◌, ◌++◌, map, length, set, get_or, nat_lt, refl, sym, ◌∙◌, ap, ap₂, subst, inl, inr, arith, eq-eqb, ne_eqb}
use Rattle.std.proofs.lemmas.Bool.{cases_eq, cases_lt, cases_Bool, lt-ltb, and_parts}
use Rattle.std.proofs.lemmas.List.{get_or-set_same, get_or-set_other, get_or-map, get_or_past, length-map}
use Rattle.std.proofs.lemmas.List.Elements.{All-from_recursion, recursion_from_All}
use Rattle.std.specs.List.{All, AllByRecursion}
use Rattle.limits.specs.declared.TheConstants.{MAX_PARTITIONS}
use Rattle.invariants.specs.declared.Invariant.{Invariant}
use Rattle.invariants.specs.Holds.{Holds}
use Rattle.partition_model.specs.Graphs.{Graph, Walk, word, Breaks, Merged}
use Rattle.partition_model.specs.Assignments.{Event, Assignment, IsTyped, G, events, ids_of, is_live, type_of, renamed, renamed_event}
use Rattle.partition_model.specs.Refinement.{next_id, moved_id, split_trace, split}
use Rattle.partition_model.specs.Coarsening.{merge, onto, IsPair}
use Rattle.partition_model.specs.Laws.{IsFresh, AreSame}
use Rattle.partition_model.proofs.Lists.{In, In-map, all_in, all_from, In-events, events-In}
use Rattle.partition_model.proofs.Naming.{events-renamed, typed_from}
use Rattle.partition_model.proofs.Forming.{graphs_are_formed}
use Rattle.partition_model.proofs.Merging.{merge_typed, onto_is, onto_other, renamed_twice}
use Rattle.partition_model.proofs.MergedGraph.{merge_is_merged}
use Rattle.partition_model.proofs.Passes.{live-member, member-live}
use Rattle.partition_model.proofs.Runs.{split-typed, split-In}
use Rattle.replay_check.specs.Laid.{laid, moved, HaveIdsBelow}
use Rattle.replay_check.specs.Shown.{Shows, Knows, HasTypes, HasEdges, graph_in, named_by}
use Rattle.replay_check.proofs.Laying.{laid-moved, high, AreHigh}

-- ---- ids

-- the ids of a trace are below a bound
trace-below : (n m : ℕ) → 2 ≤ m → n ≤ m → (t es : List Event) (rest : List ℕ) → AllByRecursion (λ e. (2 ≤ e.id) × (e.id < n)) (t ++ es)
    → (AllByRecursion (λ e. (2 ≤ e.id) × (e.id < n)) es → AllByRecursion (λ p. p < m) rest) → AllByRecursion (λ p. p < m) ((ids_of t ++ 1 ∷ []) ++ rest)
trace-below n m l k [] es rest a f = (omega arith, f a)
trace-below n m l k (e ∷ t) es rest a f = ((let b : e.id < n = a.0.1 in omega arith), trace-below n m l k t es rest a.1 f)

-- the ids below a bound, with those of the ends
laid-below : (n m : ℕ) → 2 ≤ m → n ≤ m → (h : Assignment) → HaveIdsBelow n h → AllByRecursion (λ p. p < m) (laid h)
laid-below n m l k [] a = tt
laid-below n m l k (t ∷ h) a = (omega arith, trace-below n m l k t (events h) (laid h) a (λ b. laid-below n m l k h b))

pub laid-within : (n m : ℕ) → 2 ≤ m → n ≤ m → (h : Assignment) → HaveIdsBelow n h → All (λ p. p < m) (laid h)
laid-within n m l k h a = All-from_recursion (λ p. p < m) (laid h) (laid-below n m l k h a)

-- ids below a bound are below a greater one
pub below-more : (n m : ℕ) → n ≤ m → (h : Assignment) → HaveIdsBelow n h → HaveIdsBelow m h
below-more n m l h a = all_from (λ e. (2 ≤ e.id) × (e.id < m)) (events h) (λ e i. let b : (2 ≤ e.id) × (e.id < n) = all_in (λ e. (2 ≤ e.id) × (e.id < n)) e (events h) a i in (b.0, (let c : e.id < n = b.1 in omega arith)))

-- ---- graphs

-- a walk is one of another graph, where the edges are there too and lead to the same types
walk-to : (g k : Graph) (m : ℕ) → ((p q : ℕ) → p < m → q < m → g.edge p q ≡ true → (k.edge p q ≡ true) × (g.typ q ≡ k.typ q))
    → (p : ℕ) (xs : List ℕ) (r : ℕ) → p < m → AllByRecursion (λ x. x < m) xs → Walk g p xs r → Walk k p xs r × (word g xs ≡ word k xs)
walk-to g k m same p [] r b a w = (w, refl)
walk-to g k m same p (x ∷ xs) r b a w =
    let s : (k.edge p x ≡ true) × (g.typ x ≡ k.typ x) = same p x b a.0 w.0 in
    let i : Walk k x xs r × (word g xs ≡ word k xs) = walk-to g k m same x xs r a.0 a.1 w.1 in
    ((s.0, i.0), ap₂ (λ (u : ℕ) (us : List ℕ). u ∷ us) s.1 i.1)

pub breaks-to : (g k : Graph) (m : ℕ) → g.typ 0 ≡ k.typ 0 → ((p q : ℕ) → p < m → q < m → g.edge p q ≡ true → (k.edge p q ≡ true) × (g.typ q ≡ k.typ q))
    → (inv : Invariant) (path : List ℕ) → AllByRecursion (λ x. x < m) path → Breaks g inv path → Breaks k inv path
breaks-to g k m z same inv [] a b = absurd b.0
breaks-to g k m z same inv (x ∷ xs) a b =
    let i : Walk k x xs 1 × (word g xs ≡ word k xs) = walk-to g k m same x xs 1 a.0 a.1 b.0.1 in
    let t : g.typ x ≡ k.typ x = ap g.typ b.0.0 ∙ z ∙ sym (ap k.typ b.0.0) in
    let e : word g (x ∷ xs) ≡ word k (x ∷ xs) = ap₂ (λ (u : ℕ) (us : List ℕ). u ∷ us) t i.1 in
    ((b.0.0, i.0), λ h. b.1 (subst (λ (w : List ℕ). Holds inv w) (sym e) h))

-- what breaks an invariant in the graph of the tables breaks it in that of the assignment, and no more
pub breaks-same : (h : Assignment) (types : List ℕ) (rows : List (List Bool)) → IsTyped h → HasTypes h types → HasEdges h rows → (inv : Invariant) (path : List ℕ)
    → AllByRecursion (λ p. p < MAX_PARTITIONS) path → Breaks (graph_in rows types) inv path ↔ Breaks (G h) inv path
breaks-same h types rows typed t c inv path a = (
  breaks-to (graph_in rows types) (G h) MAX_PARTITIONS start there inv path a,
  breaks-to (G h) (graph_in rows types) MAX_PARTITIONS (sym start) back inv path a,
)
  where
    start : get_or types 0 0 ≡ type_of h 0
    start = t 0 refl

    kind : (p q : ℕ) → (G h).edge p q ≡ true → get_or types q 0 ≡ type_of h q
    kind p q e = t q ((graphs_are_formed h typed).between p q e).1

    there : (p q : ℕ) → p < MAX_PARTITIONS → q < MAX_PARTITIONS → (graph_in rows types).edge p q ≡ true → ((G h).edge p q ≡ true) × ((graph_in rows types).typ q ≡ (G h).typ q)
    there p q b d e = let f : (G h).edge p q ≡ true = sym (c p q b) ∙ e in (f, kind p q f)

    back : (p q : ℕ) → p < MAX_PARTITIONS → q < MAX_PARTITIONS → (G h).edge p q ≡ true → ((graph_in rows types).edge p q ≡ true) × ((G h).typ q ≡ (graph_in rows types).typ q)
    back p q b d e = (c p q b ∙ e, sym (kind p q e))

-- ---- a split

-- an event after the split comes from one of the same type, which had the id that is divided or has its own
record ComesFrom (p n : ℕ) (e d : Event) : Type 0 where
  typ : d.typ ≡ e.typ
  id : ((e.id ≡ n) × (d.id ≡ p)) ⊎ (e.id ≡ d.id)

comes : (p q n : ℕ) (d : Event) (t : List Event) (e : Event) → record { typ = d.typ; id = moved_id p q n d t } ≡ e → ComesFrom p n e d
comes p q n d t e k =
    let x : moved_id p q n d t ≡ e.id = ap (λ (z : Event). z.id) k in
    record {
      typ = ap (λ (z : Event). z.typ) k;
      id = elim (cases_Bool (d.id == p && next_id t == q)) [
        | inl a ↦ inl ((let y : n ≡ e.id = rw a at x in sym y), Rattle.std.proofs.Common.eqb-true d.id p (and_parts (d.id == p) (next_id t == q) a).0)
        | inr b ↦ inr (let y : d.id ≡ e.id = rw b at x in sym y)
      ];
    }

source : (p q n : ℕ) (t : List Event) (e : Event) → In e (split_trace p q n t) → (d : Event) × In d t × ComesFrom p n e d
source p q n [] e i = absurd i
source p q n (d ∷ t) e (inl k) = (d, inl refl, comes p q n d t e k)
source p q n (d ∷ t) e (inr r) = let o : (c : Event) × In c t × ComesFrom p n e c = source p q n t e r in (o.0, inr o.1, o.2)

split-source : (p q n : ℕ) (h : Assignment) (e : Event) → In e (events (split p q n h)) → (d : Event) × In d (events h) × ComesFrom p n e d
split-source p q n h e i =
    let o : (s : List Event) × In s (split p q n h) × In e s = events-In e (split p q n h) i in
    let u : (t : List Event) × In t h × (split_trace p q n t ≡ o.0) = split-In p q n o.0 h o.1 in
    let v : (d : Event) × In d u.0 × ComesFrom p n e d = source p q n u.0 e (subst (λ (s : List Event). In e s) (sym u.2) o.2) in
    (v.0, In-events v.0 u.0 h u.1 v.1, v.2)

-- the next id is new
pub fresh : (n : ℕ) (h : Assignment) → 2 ≤ n → HaveIdsBelow n h → IsFresh n h
fresh n h l a = (l, all_from (λ e. e.id ≢ n) (events h) (λ e i q. absurd (let b : (2 ≤ e.id) × (e.id < n) = all_in (λ e. (2 ≤ e.id) × (e.id < n)) e (events h) a i in let c : e.id < n = b.1 in omega arith)))

-- the ids after a split are below the one after the new one
pub split-below : (p q n : ℕ) (h : Assignment) → 2 ≤ n → HaveIdsBelow n h → HaveIdsBelow (n + 1) (split p q n h)
split-below p q n h l a =
    all_from (λ e. (2 ≤ e.id) × (e.id < n + 1)) (events (split p q n h)) (λ e i.
    let o : (d : Event) × In d (events h) × ComesFrom p n e d = split-source p q n h e i in
    let b : (2 ≤ o.0.id) × (o.0.id < n) = all_in (λ e. (2 ≤ e.id) × (e.id < n)) o.0 (events h) a o.1 in
    let low : 2 ≤ o.0.id = b.0 in
    let top : o.0.id < n = b.1 in
    elim o.2.id [
      | inl x ↦ let y : e.id ≡ n = x.0 in (omega arith, omega arith)
      | inr x ↦ (omega arith, omega arith)
    ])

-- the types after a split, where the new id gets that of the divided one
split-kinds : (p q n : ℕ) (h : Assignment) (types : List ℕ) → 2 ≤ n → n < length types → IsTyped h → HaveIdsBelow n h → HasTypes h types
    → HasTypes (split p q n h) (set types n (get_or types p 0))
split-kinds p q n h types l room typed a t x live =
    elim (cases_lt x 2) [
      | inl s ↦
          get_or-set_other types n x (get_or types p 0) 0 (λ e. absurd (omega arith)) ∙ t x (rw (lt-ltb x 2 s) refl) ∙ rw (lt-ltb x 2 s) refl
      | inr s ↦
          let o : (e : Event) × In e (events (split p q n h)) × (e.id ≡ x) = live-member (split p q n h) x s live in
          let u : (d : Event) × In d (events h) × ComesFrom p n o.0 d = split-source p q n h o.0 o.1 in
          let after : (2 ≤ o.0.id) × (o.0.typ ≡ type_of (split p q n h) o.0.id) = all_in (λ e. (2 ≤ e.id) × (e.typ ≡ type_of (split p q n h) e.id)) o.0 (events (split p q n h)) (split-typed h p q n typed (fresh n h l a)) o.1 in
          let before : (2 ≤ u.0.id) × (u.0.typ ≡ type_of h u.0.id) = all_in (λ e. (2 ≤ e.id) × (e.typ ≡ type_of h e.id)) u.0 (events h) typed u.1 in
          let own : get_or types u.0.id 0 ≡ type_of h u.0.id = t u.0.id (member-live h u.0.id before.0 u.0 u.1 refl) in
          let below : (2 ≤ u.0.id) × (u.0.id < n) = all_in (λ e. (2 ≤ e.id) × (e.id < n)) u.0 (events h) a u.1 in
          let end : get_or types u.0.id 0 ≡ type_of (split p q n h) x = own ∙ sym before.1 ∙ u.2.typ ∙ after.1 ∙ ap (λ z. type_of (split p q n h) z) o.2 in
          elim u.2.id [
            | inl k ↦
                let e : x ≡ n = sym o.2 ∙ k.0 in
                ap (λ z. get_or (set types n (get_or types p 0)) z 0) e ∙ get_or-set_same types n (get_or types p 0) 0 room ∙ ap (λ z. get_or types z 0) (sym k.1) ∙ end
            | inr k ↦
                let e : x ≡ u.0.id = sym o.2 ∙ k in
                let top : u.0.id < n = below.1 in
                get_or-set_other types n x (get_or types p 0) 0 (λ f. absurd (omega arith)) ∙ ap (λ z. get_or types z 0) e ∙ end
          ]
    ]

-- what ids and types show after a split of an id that is no end
pub shows-split : (p q n : ℕ) (h : Assignment) (ids types : List ℕ) → 2 ≤ p → n < length types → Shows h n ids types
    → Shows (split p q n h) (n + 1) (moved p q n ids) (set types n (get_or types p 0))
shows-split p q n h ids types l room s =
    let two : 2 ≤ n = s.high in
    record {
      ids_are = ap (λ (xs : List ℕ). moved p q n xs) s.ids_are ∙ laid-moved p q n l h;
      typed = split-typed h p q n s.typed (fresh n h s.high s.below);
      high = omega arith;
      below = split-below p q n h s.high s.below;
      types_are = split-kinds p q n h types s.high room s.typed s.below s.types_are;
    }

-- no event is moved out of an end
none-moved : (p q n : ℕ) → p < 2 → (t : List Event) → AreHigh t → split_trace p q n t ≡ t
none-moved p q n l [] a = refl
none-moved p q n l (e ∷ t) a =
    let k : 2 ≤ e.id = a e (inl refl) in
    let f : (e.id == p) ≡ false = ne_eqb e.id p (omega arith) in
    let m : moved_id p q n e t ≡ e.id = rw f refl in
    ap₂ (λ (x : ℕ) (xs : List Event). record { typ = e.typ; id = x } ∷ xs) m (none-moved p q n l t (λ d i. a d (inr i)))

none-split : (p q n : ℕ) → p < 2 → (h : Assignment) → ((t : List Event) → In t h → AreHigh t) → split p q n h ≡ h
none-split p q n l [] a = refl
none-split p q n l (t ∷ h) a = ap₂ (λ (x : List Event) (xs : Assignment). x ∷ xs) (none-moved p q n l t (a t (inl refl))) (none-split p q n l h (λ s i. a s (inr i)))

-- and after a split of an end
pub shows-still : (p q n : ℕ) (h : Assignment) (ids types : List ℕ) → p < 2 → Shows h n ids types → Shows (split p q n h) (n + 1) ids types
shows-still p q n h ids types l s =
    let two : 2 ≤ n = s.high in
    let e : split p q n h ≡ h = none-split p q n l h (high h s.typed) in
    subst (λ (k : Assignment). Shows k (n + 1) ids types) (sym e)
    (record {
      ids_are = s.ids_are;
      typed = s.typed;
      high = omega arith;
      below = below-more n (n + 1) (omega arith) h s.below;
      types_are = s.types_are;
    })

-- ---- a merge

merge-below : (p q n : ℕ) (h : Assignment) → 2 ≤ p → p < n → HaveIdsBelow n h → HaveIdsBelow n (merge p q h)
merge-below p q n h l m a =
    subst (λ (es : List Event). AllByRecursion (λ e. (2 ≤ e.id) × (e.id < n)) es) (sym (events-renamed (onto p q) h))
    (all_from (λ e. (2 ≤ e.id) × (e.id < n)) (map (renamed_event (onto p q)) (events h)) (λ e k.
    let o : (d : Event) × In d (events h) × (renamed_event (onto p q) d ≡ e) = In-map (renamed_event (onto p q)) e (events h) k in
    let b : (2 ≤ o.0.id) × (o.0.id < n) = all_in (λ e. (2 ≤ e.id) × (e.id < n)) o.0 (events h) a o.1 in
    let i : onto p q o.0.id ≡ e.id = ap (λ (x : Event). x.id) o.2 in
    elim (cases_eq o.0.id q) [
      | inl c ↦ let f : p ≡ e.id = sym (onto_is p q o.0.id c) ∙ i in (omega arith, omega arith)
      | inr c ↦ let f : o.0.id ≡ e.id = sym (onto_other p q o.0.id c) ∙ i in let x : 2 ≤ o.0.id = b.0 in let y : o.0.id < n = b.1 in (omega arith, omega arith)
    ]))

-- what is known after a merge of a pair, where the higher id is dead
pub knows-merge : (p q : ℕ) (h : Assignment) (live : List Bool) (types : List ℕ) → q < MAX_PARTITIONS → length live ≡ MAX_PARTITIONS → IsPair (G h) p q → Knows h live types
    → Knows (merge p q h) (set live q false) types
knows-merge p q h live types b size i k =
    let same : AreSame (G (merge p q h)) (Merged (G h) p q) = merge_is_merged h p q k.typed i in
    let order : p < q = i.order in
    let low : 2 ≤ p = i.low in
    record {
      typed = typed_from (λ x. type_of h x) (merge p q h) (merge_typed h p q k.typed i);
      below = merge-below p q MAX_PARTITIONS h i.low (omega arith) k.below;
      live_are = λ x l. elim (cases_eq x q) [
        | inl e ↦ ap (λ z. get_or (set live q false) z false) e ∙ get_or-set_same live q false false (omega arith) ∙ sym (dead q refl) ∙ sym (same.listed q) ∙ ap (λ z. (G (merge p q h)).listed z) (sym e)
        | inr n ↦ get_or-set_other live q x false false n ∙ k.live_are x l ∙ sym (others x n) ∙ sym (same.listed x)
      ];
      types_are = λ x l.
          let m : (Merged (G h) p q).listed x ≡ true = sym (same.listed x) ∙ l in
          k.types_are x (and_parts (not (x == q)) (is_live h x) m).1 ∙ sym (same.types x m);
    }
  where
    dead : (x : ℕ) → x ≡ q → (Merged (G h) p q).listed x ≡ false
    dead x e = rw (eq-eqb x q e) refl

    others : (x : ℕ) → x ≢ q → (Merged (G h) p q).listed x ≡ is_live h x
    others x n = rw (ne_eqb x q n) refl

-- where events keep their ids they are as they were
same-trace : (f : ℕ → ℕ) (t : List Event) → ((e : Event) → In e t → f e.id ≡ e.id) → map (renamed_event f) t ≡ t
same-trace f [] a = refl
same-trace f (e ∷ t) a = ap₂ (λ (x : ℕ) (xs : List Event). record { typ = e.typ; id = x } ∷ xs) (a e (inl refl)) (same-trace f t (λ d i. a d (inr i)))

same-all : (f : ℕ → ℕ) (h : Assignment) → ((t : List Event) → In t h → (e : Event) → In e t → f e.id ≡ e.id) → renamed f h ≡ h
same-all f [] a = refl
same-all f (t ∷ h) a = ap₂ (λ (x : List Event) (xs : Assignment). x ∷ xs) (same-trace f t (a t (inl refl))) (same-all f h (λ s i. a s (inr i)))

-- names that are the ids themselves rename nothing
pub named-first : (names : List ℕ) (n : ℕ) (h : Assignment) → HaveIdsBelow n h → ((p : ℕ) → p < n → get_or names p 0 ≡ p) → named_by names h ≡ h
named-first names n h a own =
    same-all (λ p. get_or names p 0) h (λ t i e j. own e.id (let b : (2 ≤ e.id) × (e.id < n) = all_in (λ e. (2 ≤ e.id) × (e.id < n)) e (events h) a (In-events e t h i j) in b.1))

-- names under a merge
pub onto-names : (p q : ℕ) (names : List ℕ) → 0 < q → (x : ℕ) → onto p q (get_or names x 0) ≡ get_or (map (λ y. onto p q y) names) x 0
onto-names p q names l x =
    elim (cases_lt x (length names)) [
      | inl i ↦ sym (get_or-map (λ y. onto p q y) names x 0 0 i)
      | inr o ↦
          ap (λ y. onto p q y) (get_or_past names x 0 o) ∙ onto_other p q 0 (λ e. absurd (omega arith))
          ∙ sym (get_or_past (map (λ y. onto p q y) names) x 0 (omega (arith, length-map names (λ y. onto p q y))))
    ]

-- the names after a merge rename as the names before it and then the merge
pub named-more : (p q : ℕ) (names : List ℕ) (h now : Assignment) → 0 < q → named_by names h ≡ now → named_by (map (λ y. onto p q y) names) h ≡ merge p q now
named-more p q names h now l e =
    sym (renamed_twice (λ y. onto p q y) (λ x. get_or names x 0) (λ x. get_or (map (λ y. onto p q y) names) x 0) (onto-names p q names l) h)
    ∙ ap (λ (k : Assignment). merge p q k) e

names-rec : (p q m : ℕ) (names : List ℕ) → p < m → AllByRecursion (λ x. x < m) names → AllByRecursion (λ x. x < m) (map (λ y. onto p q y) names)
names-rec p q m [] l a = tt
names-rec p q m (x ∷ names) l a = (
  elim (cases_eq x q) [
    | inl e ↦ let b : onto p q x ≡ p = onto_is p q x e in omega arith
    | inr n ↦ let b : onto p q x ≡ x = onto_other p q x n in let k : x < m = a.0 in omega arith
  ],
  names-rec p q m names l a.1,
)

-- names below a bound stay so under a merge
pub names-within : (p q m : ℕ) (names : List ℕ) → p < m → All (λ x. x < m) names → All (λ x. x < m) (map (λ y. onto p q y) names)
names-within p q m names l a = All-from_recursion (λ x. x < m) (map (λ y. onto p q y) names) (names-rec p q m names l (recursion_from_All (λ x. x < m) names a))

image-rec : (m : ℕ) (names ids : List ℕ) → All (λ x. x < m) names → 0 < m → AllByRecursion (λ x. x < m) (map (λ y. get_or names y 0) ids)
image-rec m names [] a z = tt
image-rec m names (x ∷ ids) a z = (
  elim (cases_lt x (length names)) [
    | inl l ↦ a x 0 l
    | inr o ↦ let e : get_or names x 0 ≡ 0 = get_or_past names x 0 o in omega arith
  ],
  image-rec m names ids a z,
)

-- new names below a bound
pub image-within : (m : ℕ) (names ids : List ℕ) → All (λ x. x < m) names → 0 < m → All (λ x. x < m) (map (λ y. get_or names y 0) ids)
image-within m names ids a z = All-from_recursion (λ x. x < m) (map (λ y. get_or names y 0) ids) (image-rec m names ids a z)
