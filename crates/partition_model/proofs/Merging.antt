-- Merges, of graphs and of assignments.
use Rattle.partition_model.specs.Assignments.{renamed_event}
use Rattle.partition_model.specs.Coarsening.{onto}
use Rattle.std.proofs.Common.{◌≡◌, ◌≢◌, ℕ, ◌<◌, ◌≤◌, ◌==◌, ◌&&◌, ◌||◌, not, nat_lt, true, false, if◌then◌else◌, List, [], ◌∷◌, map, sym, ◌∙◌, refl, ap, ap₂, subst, inl, inr, arith, eq-eqb, ne_eqb, eqb-true, ltb-true, le-ltb}
use Rattle.std.proofs.lemmas.Bool.{cases_eq, and_parts, or_cases, or_left, or_right, eqb-false, not-true}
use Rattle.std.specs.List.{AllByRecursion}
use Rattle.partition_model.specs.Graphs.{Graph, IsPath, word, Merged, merged_edge}
use Rattle.partition_model.specs.Assignments.{Event, Assignment, events, G, IsTyped, renamed, type_of, pairs, id_list, members}
use Rattle.partition_model.specs.Refinement.{SatisfiesAll}
use Rattle.partition_model.specs.Coarsening.{merge, IsPair}
use Rattle.partition_model.specs.Laws.{MergeGrows, MergedKeeps, LostStaysLost}
use Rattle.partition_model.proofs.Lists.{In, all_in, all_from, In-map, edge-In, In-edge, pairs-back, member-of}
use Rattle.partition_model.proofs.Paths.{Maps, accepts_maps, satisfies_maps, all_maps, path_maps}
use Rattle.partition_model.proofs.Naming.{renamed_maps, events-renamed, TypedBy, typed_from, type_known, edge_target, id_list-renamed}

-- p stands for q
pub onto_same : (p q : ℕ) → onto p q q ≡ p
onto_same p q = rw (eq-eqb q q refl)

-- each other id stands for itself
pub onto_other : (p q x : ℕ) → x ≢ q → onto p q x ≡ x
onto_other p q x n = rw (ne_eqb x q n)

-- p stands for each id that is q
pub onto_is : (p q x : ℕ) → x ≡ q → onto p q x ≡ p
onto_is p q x e = rw (eq-eqb x q e)

-- an edge of the merged graph, where it stands for one of g
merged_from : (g : Graph) (p q x y : ℕ) → p ≢ q → g.edge x y ≡ true → merged_edge g p q (onto p q x) (onto p q y) ≡ true
merged_from g p q x y n k =
    elim (cases_eq x q) [
      | inl a ↦ elim (cases_eq y q) [
        | inl b ↦ rw (onto_is p q x a, onto_is p q y b) (
            let pq : (p == q) ≡ false = ne_eqb p q n in
            let pp : (p == p) ≡ true = eq-eqb p p refl in
            let e : g.edge q q ≡ true = ap₂ g.edge (sym a) (sym b) ∙ k in
            rw (pq, pp, e) (or_right (g.edge p p || g.edge q p || g.edge p q) true refl))
        | inr b ↦ rw (onto_is p q x a, onto_other p q y b) (
            let pq : (p == q) ≡ false = ne_eqb p q n in
            let pp : (p == p) ≡ true = eq-eqb p p refl in
            let yq : (y == q) ≡ false = ne_eqb y q b in
            let e : g.edge q y ≡ true = ap (λ (z : ℕ). g.edge z y) (sym a) ∙ k in
            rw (pq, pp, yq, e) (or_left (g.edge p y || true || (y == p && g.edge p q)) ((y == p) && g.edge q q) (or_left (g.edge p y || true) (y == p && g.edge p q) (or_right (g.edge p y) true refl))))
      ]
      | inr a ↦ elim (cases_eq y q) [
        | inl b ↦ rw (onto_other p q x a, onto_is p q y b) (
            let pq : (p == q) ≡ false = ne_eqb p q n in
            let pp : (p == p) ≡ true = eq-eqb p p refl in
            let xq : (x == q) ≡ false = ne_eqb x q a in
            let e : g.edge x q ≡ true = ap (λ (z : ℕ). g.edge x z) (sym b) ∙ k in
            rw (pq, pp, xq, e) (or_left (g.edge x p || (x == p && g.edge q p) || true) ((x == p) && true && g.edge q q) (or_right (g.edge x p || (x == p && g.edge q p)) true refl)))
        | inr b ↦ rw (onto_other p q x a, onto_other p q y b) (
            let xq : (x == q) ≡ false = ne_eqb x q a in
            let yq : (y == q) ≡ false = ne_eqb y q b in
            rw (xq, yq, k) (refl))
      ]
    ]

-- a merge takes the paths of a graph to those of the merged graph
pub merged_maps : (g : Graph) (p q : ℕ) → 2 ≤ p → p < q → g.typ p ≡ g.typ q → Maps (onto p q) g (Merged g p q)
merged_maps g p q l m t =
    record {
      zero_is = onto_other p q 0 (λ e. absurd (omega arith));
      one_is = onto_other p q 1 (λ e. absurd (omega arith));
      start = refl;
      edges = λ u v k. merged_from g p q u v (λ e. absurd (omega arith)) k;
      types = λ u v k. elim (cases_eq v q) [
        | inl e ↦ ap g.typ (onto_is p q v e) ∙ t ∙ ap g.typ (sym e)
        | inr n ↦ ap g.typ (onto_other p q v n)
      ];
    }

-- every word of a path is one of a path of the merged graph
pub merge_grows : MergeGrows
merge_grows g p q l m t w a = accepts_maps (onto p q) g (Merged g p q) (merged_maps g p q l m t) w a

-- an invariant that the merged graph satisfies was satisfied before
pub merged_keeps : MergedKeeps
merged_keeps g p q l m t inv s = satisfies_maps (onto p q) g (Merged g p q) (merged_maps g p q l m t) inv s

-- after a merge, the types from before fit the ids
pub merge_typed : (h : Assignment) (p q : ℕ) → IsTyped h → IsPair (G h) p q → TypedBy (λ x. type_of h x) (merge p q h)
merge_typed h p q t i =
    subst (λ (es : List Event). AllByRecursion (λ e. (2 ≤ e.id) × (e.typ ≡ type_of h e.id)) es) (sym (events-renamed (onto p q) h))
    (all_from (λ e. (2 ≤ e.id) × (e.typ ≡ type_of h e.id)) (map (renamed_event (onto p q)) (events h)) (λ e k.
    let o : (d : Event) × In d (events h) × (renamed_event (onto p q) d ≡ e) = In-map (renamed_event (onto p q)) e (events h) k in
    let a : (2 ≤ o.0.id) × (o.0.typ ≡ type_of h o.0.id) = all_in (λ e. (2 ≤ e.id) × (e.typ ≡ type_of h e.id)) o.0 (events h) t o.1 in
    let ei : onto p q o.0.id ≡ e.id = ap (λ (x : Event). x.id) o.2 in
    let et : o.0.typ ≡ e.typ = ap (λ (x : Event). x.typ) o.2 in
    elim (cases_eq o.0.id q) [
      | inl b ↦
          let c : p ≡ e.id = sym (onto_is p q o.0.id b) ∙ ei in
          let l : 2 ≤ p = i.low in
          (subst (λ (x : ℕ). 2 ≤ x) c l, sym et ∙ a.1 ∙ ap (λ (x : ℕ). type_of h x) b ∙ sym i.types ∙ ap (λ (x : ℕ). type_of h x) c)
      | inr n ↦
          let c : o.0.id ≡ e.id = sym (onto_other p q o.0.id n) ∙ ei in
          (subst (λ (x : ℕ). 2 ≤ x) c a.0, sym et ∙ a.1 ∙ ap (λ (x : ℕ). type_of h x) c)
    ]))

-- a merge leaves INITIAL
onto_zero : (g : Graph) (p q : ℕ) → IsPair g p q → onto p q 0 ≡ 0
onto_zero g p q i = onto_other p q 0 (λ e. let l : 2 ≤ p = i.low in let m : p < q = i.order in absurd (omega arith))

-- a merge leaves TERMINAL
onto_one : (g : Graph) (p q : ℕ) → IsPair g p q → onto p q 1 ≡ 1
onto_one g p q i = onto_other p q 1 (λ e. let l : 2 ≤ p = i.low in let m : p < q = i.order in absurd (omega arith))

-- a merge takes the paths of the graph to those of the graph after it
pub merge_maps : (h : Assignment) (p q : ℕ) → IsTyped h → IsPair (G h) p q → Maps (onto p q) (G h) (G (merge p q h))
merge_maps h p q t i = renamed_maps (onto p q) (onto_zero (G h) p q i) (onto_one (G h) p q i) h (typed_from (λ x. type_of h x) (merge p q h) (merge_typed h p q t i))

-- an edge after the merge stands for one before it
merge_edge_back : (h : Assignment) (p q u v : ℕ) → IsPair (G h) p q → (G (merge p q h)).edge u v ≡ true → (x y : ℕ) × (onto p q x ≡ u) × (onto p q y ≡ v) × ((G h).edge x y ≡ true)
merge_edge_back h p q u v i k =
    let o : (trace : List Event) × In trace (merge p q h) × (0 < pairs u v (id_list trace)) = edge-In u v (merge p q h) k in
    let m : (t : List Event) × In t h × (map (renamed_event (onto p q)) t ≡ o.0) = In-map (λ t. map (renamed_event (onto p q)) t) o.0 h o.1 in
    let e : id_list o.0 ≡ map (onto p q) (id_list m.0) =
    ap id_list (sym m.2) ∙ id_list-renamed (onto p q) (onto_zero (G h) p q i) (onto_one (G h) p q i) m.0 in
    let l : 0 < pairs u v (map (onto p q) (id_list m.0)) = subst (λ (z : List ℕ). 0 < pairs u v z) e o.2 in
    let b : (x y : ℕ) × (onto p q x ≡ u) × (onto p q y ≡ v) × (0 < pairs x y (id_list m.0)) = pairs-back (onto p q) u v (id_list m.0) l in
    (b.0, b.1, b.2, b.3, In-edge b.0 b.1 m.0 h m.1 b.4)

-- an edge of the merged graph stands for one of the graph
pub merged_parts : (g : Graph) (p q u v : ℕ) → merged_edge g p q u v ≡ true → (x y : ℕ) × (onto p q x ≡ u) × (onto p q y ≡ v) × (g.edge x y ≡ true)
merged_parts g p q u v k =
    let ab : ((not (u == q) && not (v == q)) ≡ true) × ((g.edge u v || (u == p && g.edge q v) || (v == p && g.edge u q) || (u == p && v == p && g.edge q q)) ≡ true) =
    and_parts (not (u == q) && not (v == q)) (g.edge u v || (u == p && g.edge q v) || (v == p && g.edge u q) || (u == p && v == p && g.edge q q)) k in
    let cd : (not (u == q) ≡ true) × (not (v == q) ≡ true) = and_parts (not (u == q)) (not (v == q)) ab.0 in
    let un : u ≢ q = eqb-false u q (not-true (u == q) cd.0) in
    let vn : v ≢ q = eqb-false v q (not-true (v == q) cd.1) in
    elim (or_cases (g.edge u v || (u == p && g.edge q v) || (v == p && g.edge u q)) (u == p && v == p && g.edge q q) ab.1) [
      | inl abc ↦ elim (or_cases (g.edge u v || (u == p && g.edge q v)) (v == p && g.edge u q) abc) [
        | inl ac ↦ elim (or_cases (g.edge u v) (u == p && g.edge q v) ac) [
          | inl a ↦ (u, v, onto_other p q u un, onto_other p q v vn, a)
          | inr b ↦
              let w : ((u == p) ≡ true) × (g.edge q v ≡ true) = and_parts (u == p) (g.edge q v) b in
              (q, v, onto_same p q ∙ sym (eqb-true u p w.0), onto_other p q v vn, w.1)
        ]
        | inr c ↦
            let w : ((v == p) ≡ true) × (g.edge u q ≡ true) = and_parts (v == p) (g.edge u q) c in
            (u, q, onto_other p q u un, onto_same p q ∙ sym (eqb-true v p w.0), w.1)
      ]
      | inr d ↦
          let w : ((u == p && v == p) ≡ true) × (g.edge q q ≡ true) = and_parts (u == p && v == p) (g.edge q q) d in
          let z : ((u == p) ≡ true) × ((v == p) ≡ true) = and_parts (u == p) (v == p) w.0 in
          (q, q, onto_same p q ∙ sym (eqb-true u p z.0), onto_same p q ∙ sym (eqb-true v p z.1), w.1)
    ]

-- an edge after the merge is one of the merged graph
pub merged_to : (h : Assignment) (p q u v : ℕ) → IsPair (G h) p q → (G (merge p q h)).edge u v ≡ true → (Merged (G h) p q).edge u v ≡ true
merged_to h p q u v i k =
    let b : (x y : ℕ) × (onto p q x ≡ u) × (onto p q y ≡ v) × ((G h).edge x y ≡ true) = merge_edge_back h p q u v i k in
    let n : p ≢ q = λ e. let m : p < q = i.order in absurd (omega arith) in
    subst (λ (z : ℕ). merged_edge (G h) p q u z ≡ true) b.3
    (subst (λ (z : ℕ). merged_edge (G h) p q z (onto p q b.1) ≡ true) b.2 (merged_from (G h) p q b.0 b.1 n b.4))

-- an edge of the merged graph is one after the merge
pub to_merged : (h : Assignment) (p q u v : ℕ) → IsTyped h → IsPair (G h) p q → (Merged (G h) p q).edge u v ≡ true → (G (merge p q h)).edge u v ≡ true
to_merged h p q u v t i k =
    let b : (x y : ℕ) × (onto p q x ≡ u) × (onto p q y ≡ v) × ((G h).edge x y ≡ true) = merged_parts (G h) p q u v k in
    let m : Maps (onto p q) (G h) (G (merge p q h)) = merge_maps h p q t i in
    subst (λ (z : ℕ). (G (merge p q h)).edge u z ≡ true) b.3
    (subst (λ (z : ℕ). (G (merge p q h)).edge z (onto p q b.1) ≡ true) b.2 (m.edges b.0 b.1 b.4))

-- the id that an edge enters after the merge has its type from before
merge_type : (h : Assignment) (p q u v : ℕ) → IsTyped h → IsPair (G h) p q → (G (merge p q h)).edge u v ≡ true → type_of (merge p q h) v ≡ type_of h v
merge_type h p q u v t i k =
    elim (edge_target (merge p q h) u v k) [
      | inl e ↦ ap (λ (x : ℕ). type_of (merge p q h) x) e ∙ sym (ap (λ (x : ℕ). type_of h x) e)
      | inr m ↦ subst (λ (x : ℕ). type_of (merge p q h) x ≡ type_of h x) m.2 (type_known (λ x. type_of h x) (merge p q h) (merge_typed h p q t i) m.0 m.1)
    ]

-- a path after the merge is one of the merged graph
pub merge_to_merged : (h : Assignment) (p q : ℕ) → IsTyped h → IsPair (G h) p q → Maps (λ x. x) (G (merge p q h)) (Merged (G h) p q)
merge_to_merged h p q t i =
    record { zero_is = refl; one_is = refl; start = refl; edges = λ u v k. merged_to h p q u v i k; types = λ u v k. sym (merge_type h p q u v t i k) }

-- a path of the merged graph is one after the merge
pub merged_to_merge : (h : Assignment) (p q : ℕ) → IsTyped h → IsPair (G h) p q → Maps (λ x. x) (Merged (G h) p q) (G (merge p q h))
merged_to_merge h p q t i =
    record { zero_is = refl; one_is = refl; start = refl; edges = λ u v k. to_merged h p q u v t i k; types = λ u v k. merge_type h p q u v t i (to_merged h p q u v t i k) }

-- where each number stands for itself, a list stays as it is
map_same : (xs : List ℕ) → map (λ (x : ℕ). x) xs ≡ xs
map_same [] = refl
map_same (x ∷ xs) = ap (λ (z : List ℕ). x ∷ z) (map_same xs)

-- where each id may stand for itself, the paths of one graph are paths of the other, with the same words
pub same_path : (g k : Graph) → Maps (λ x. x) g k → (path : List ℕ) → IsPath g path → IsPath k path × (word k path ≡ word g path)
same_path g k m path i = subst (λ (z : List ℕ). IsPath k z × (word k z ≡ word g path)) (map_same path) (path_maps (λ x. x) g k m path i)

-- two namings of a trace, one after the other, are one naming
traces_twice : (f g k : ℕ → ℕ) → ((x : ℕ) → f (g x) ≡ k x) → (t : List Event) → map (renamed_event f) (map (renamed_event g) t) ≡ map (renamed_event k) t
traces_twice f g k e [] = refl
traces_twice f g k e (d ∷ t) = ap₂ (λ (x : ℕ) (z : List Event). record { typ = d.typ; id = x } ∷ z) (e d.id) (traces_twice f g k e t)

-- and so they are of an assignment
pub renamed_twice : (f g k : ℕ → ℕ) → ((x : ℕ) → f (g x) ≡ k x) → (h : Assignment) → renamed f (renamed g h) ≡ renamed k h
renamed_twice f g k e [] = refl
renamed_twice f g k e (t ∷ h) = ap₂ (λ (x : List Event) (z : Assignment). x ∷ z) (traces_twice f g k e t) (renamed_twice f g k e h)

-- an id that was merged away is gone
pub gone : (h : Assignment) (p q r : ℕ) → IsPair (G h) p q → 2 ≤ r → (G (merge p q h)).listed r ≡ true → r ≢ q
gone h p q r i l k e =
    let c : (nat_lt r 2 || nat_lt 0 (members (merge p q h) r)) ≡ true = k in
    let f : nat_lt r 2 ≡ false = le-ltb r 2 l in
    let m : 0 < members (merge p q h) r = ltb-true 0 (members (merge p q h) r) (rw f at c) in
    let o : (d : Event) × In d (events (merge p q h)) × (d.id ≡ r) = member-of r (events (merge p q h)) m in
    let j : In o.0 (map (renamed_event (onto p q)) (events h)) = subst (λ (es : List Event). In o.0 es) (events-renamed (onto p q) h) o.1 in
    let b : (c : Event) × In c (events h) × (renamed_event (onto p q) c ≡ o.0) = In-map (renamed_event (onto p q)) o.0 (events h) j in
    let u : onto p q b.0.id ≡ q = ap (λ (x : Event). x.id) b.2 ∙ o.2 ∙ e in
    let n : p < q = i.order in
    elim (cases_eq b.0.id q) [
      | inl s ↦ let w : p ≡ q = sym (onto_is p q b.0.id s) ∙ u in absurd (omega arith)
      | inr s ↦ s (sym (onto_other p q b.0.id s) ∙ u)
    ]

-- after both merges
abbrev after : ℕ → ℕ → ℕ → ℕ → ℕ → ℕ
after p q r s x = if x == q then onto r s p else x

-- two merges, the second one first
swapped : (p q r s : ℕ) → r ≢ q → s ≢ q → (x : ℕ) → onto r s (onto p q x) ≡ after p q r s (onto r s x)
swapped p q r s rq sq x =
    elim (cases_eq x q) [
      | inl a ↦
          let e : onto p q x ≡ p = onto_is p q x a in
          let f : onto r s x ≡ q = onto_other r s x (λ b. sq (sym b ∙ a)) ∙ a in
          let g : after p q r s q ≡ onto r s p = rw (eq-eqb q q refl) in
          ap (onto r s) e ∙ sym g ∙ sym (ap (after p q r s) f)
      | inr a ↦
          let e : onto p q x ≡ x = onto_other p q x a in
          elim (cases_eq x s) [
            | inl b ↦
                let f : onto r s x ≡ r = onto_is r s x b in
                let g : after p q r s r ≡ r = rw (ne_eqb r q rq) in
                ap (onto r s) e ∙ f ∙ sym g ∙ sym (ap (after p q r s) f)
            | inr b ↦
                let f : onto r s x ≡ x = onto_other r s x b in
                let g : after p q r s x ≡ x = rw (ne_eqb x q a) in
                ap (onto r s) e ∙ f ∙ sym g ∙ sym (ap (after p q r s) f)
          ]
    ]

-- a pair whose merge loses an invariant loses it after a further merge, as long as its ids are there
pub lost_stays_lost : LostStaysLost
lost_stays_lost h p q r s t i j invs sat =
    let rl : 2 ≤ r = j.low in
    let ro : r < s = j.order in
    let sl : 2 ≤ s = omega arith in
    let rq : r ≢ q = gone h p q r i rl j.has_p in
    let sq : s ≢ q = gone h p q s i sl j.has_q in
    let pl : 2 ≤ p = i.low in
    let po : p < q = i.order in
    let f : ℕ → ℕ = after p q r s in
    let w : (x : ℕ) → onto r s (onto p q x) ≡ after p q r s (onto r s x) = swapped p q r s rq sq in
    let e1 : merge r s (merge p q h) ≡ renamed (λ x. onto r s (onto p q x)) h = renamed_twice (onto r s) (onto p q) (λ x. onto r s (onto p q x)) (λ x. refl) h in
    let e2 : renamed (after p q r s) (merge r s h) ≡ renamed (λ x. onto r s (onto p q x)) h = renamed_twice (after p q r s) (onto r s) (λ x. onto r s (onto p q x)) (λ x. sym (w x)) h in
    let e : merge r s (merge p q h) ≡ renamed (after p q r s) (merge r s h) = e1 ∙ sym e2 in
    let t1 : IsTyped (merge p q h) = typed_from (λ x. type_of h x) (merge p q h) (merge_typed h p q t i) in
    let t2 : IsTyped (merge r s (merge p q h)) = typed_from (λ x. type_of (merge p q h) x) (merge r s (merge p q h)) (merge_typed (merge p q h) r s t1 j) in
    let z0 : after p q r s 0 ≡ 0 = rw (ne_eqb 0 q (λ x. absurd (omega arith))) in
    let z1 : after p q r s 1 ≡ 1 = rw (ne_eqb 1 q (λ x. absurd (omega arith))) in
    let m : Maps (after p q r s) (G (merge r s h)) (G (renamed (after p q r s) (merge r s h))) =
    renamed_maps (after p q r s) z0 z1 (merge r s h) (subst (λ (k : Assignment). IsTyped k) e t2) in
    all_maps (after p q r s) (G (merge r s h)) (G (renamed (after p q r s) (merge r s h))) m invs
    (subst (λ (k : Assignment). SatisfiesAll (G k) invs) e sat)
