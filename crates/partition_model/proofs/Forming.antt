-- The graphs of assignments are formed, and so are merged graphs.
use Rattle.std.proofs.Common.{◌≡◌, ◌≢◌, ℕ, ◌<◌, ◌≤◌, ◌==◌, ◌&&◌, ◌||◌, not, true, false, List, [], ◌∷◌, ◌++◌, sym, ◌∙◌, refl, ap, subst, inl, inr, arith, eq-eqb, ne_eqb}
use Rattle.std.proofs.lemmas.Bool.{cases_eq, and_parts, eqb-false, not-true}
use Rattle.std.specs.List.{AllByRecursion}
use Rattle.partition_model.specs.Graphs.{Graph, Walk, Merged}
use Rattle.partition_model.specs.Assignments.{Event, Assignment, events, G, IsTyped, id_list, ids_of, pairs, type_of}
use Rattle.partition_model.specs.Coarsening.{onto}
use Rattle.partition_model.specs.Laws.{GraphsAreFormed, MergedAreFormed, MergedPathsAvoid}
use Rattle.partition_model.proofs.Lists.{In, In-append, In-map, In-events, all_in, edge-In, pairs-In, pairs-first}
use Rattle.partition_model.proofs.Merging.{onto_is, onto_other, merged_parts}
use Rattle.partition_model.proofs.Passes.{member-live}
use Rattle.partition_model.proofs.Stitching.{enters_no_zero, leaves_no_one}

-- each id in a trace's list is listed
pub listed-in : (h : Assignment) → IsTyped h → (trace : List Event) → In trace h → (x : ℕ) → In x (id_list trace) → (G h).listed x ≡ true
listed-in h t trace i x (inl e) = ap (G h).listed (sym e)
listed-in h t trace i x (inr k) =
    elim (In-append x (ids_of trace) (1 ∷ []) k) [
      | inl a ↦
          let o : (e : Event) × In e trace × (e.id ≡ x) = In-map (λ e. e.id) x trace a in
          let j : In o.0 (events h) = In-events o.0 trace h i o.1 in
          let l : 2 ≤ o.0.id = (all_in (λ e. (2 ≤ e.id) × (e.typ ≡ type_of h e.id)) o.0 (events h) t j).0 in
          member-live h x (subst (λ (z : ℕ). 2 ≤ z) o.2 l) o.0 j o.2
      | inr b ↦ elim b [ inl e ↦ ap (G h).listed (sym e) | inr n ↦ absurd n ]
    ]

-- the graph of an assignment is formed
pub graphs_are_formed : GraphsAreFormed
graphs_are_formed h t =
    record {
      start_listed = refl;
      end_listed = refl;
      start_type = refl;
      end_type = refl;
      between = λ p q k.
          let o : (trace : List Event) × In trace h × (0 < pairs p q (id_list trace)) = edge-In p q h k in
          (listed-in h t o.0 o.1 p (pairs-first p q (id_list o.0) o.2), listed-in h t o.0 o.1 q (inr (pairs-In p q 0 (ids_of o.0 ++ 1 ∷ []) o.2)));
      none_into_start = λ p k. enters_no_zero h t p 0 k refl;
      none_out_of_end = λ q k. leaves_no_one h t q k;
    }

-- what stands for a listed id is listed
onto-listed : (g : Graph) (p q x u : ℕ) → p < q → g.listed p ≡ true → g.listed x ≡ true → onto p q x ≡ u → (Merged g p q).listed u ≡ true
onto-listed g p q x u l lp lx e =
    elim (cases_eq x q) [
      | inl a ↦
          let b : p ≡ u = sym (onto_is p q x a) ∙ e in
          subst (λ (z : ℕ). (Merged g p q).listed z ≡ true) b (let n : (p == q) ≡ false = ne_eqb p q (λ c. absurd (omega arith)) in rw (n, lp) refl)
      | inr a ↦
          let b : x ≡ u = sym (onto_other p q x a) ∙ e in
          subst (λ (z : ℕ). (Merged g p q).listed z ≡ true) b (let n : (x == q) ≡ false = ne_eqb x q a in rw (n, lx) refl)
    ]

-- an id below 2 stands for itself alone
onto-end : (p q x u : ℕ) → 2 ≤ p → u < 2 → onto p q x ≡ u → x ≡ u
onto-end p q x u l k e =
    elim (cases_eq x q) [
      | inl a ↦ let b : p ≡ u = sym (onto_is p q x a) ∙ e in absurd (omega arith)
      | inr a ↦ sym (onto_other p q x a) ∙ e
    ]

-- the merged graph of a formed graph is formed, and q is gone from it
pub merged_are_formed : MergedAreFormed
merged_are_formed g p q f l m lp = (
  record {
    start_listed = (let n : (0 == q) ≡ false = ne_eqb 0 q (λ e. absurd (omega arith)) in rw (n, f.start_listed) refl);
    end_listed = (let n : (1 == q) ≡ false = ne_eqb 1 q (λ e. absurd (omega arith)) in rw (n, f.end_listed) refl);
    start_type = f.start_type;
    end_type = f.end_type;
    between = λ u v k.
        let o : (x y : ℕ) × (onto p q x ≡ u) × (onto p q y ≡ v) × (g.edge x y ≡ true) = merged_parts g p q u v k in
        let b : (g.listed o.0 ≡ true) × (g.listed o.1 ≡ true) = f.between o.0 o.1 o.4 in
        (onto-listed g p q o.0 u m lp b.0 o.2, onto-listed g p q o.1 v m lp b.1 o.3);
    none_into_start = λ u k.
        let o : (x y : ℕ) × (onto p q x ≡ u) × (onto p q y ≡ 0) × (g.edge x y ≡ true) = merged_parts g p q u 0 k in
        f.none_into_start o.0 (subst (λ (z : ℕ). g.edge o.0 z ≡ true) (onto-end p q o.1 0 l (omega arith) o.3) o.4);
    none_out_of_end = λ v k.
        let o : (x y : ℕ) × (onto p q x ≡ 1) × (onto p q y ≡ v) × (g.edge x y ≡ true) = merged_parts g p q 1 v k in
        f.none_out_of_end o.1 (subst (λ (z : ℕ). g.edge z o.1 ≡ true) (onto-end p q o.0 1 l (omega arith) o.2) o.4);
  },
  (let n : (q == q) ≡ true = eq-eqb q q refl in rw n refl),
)

-- an edge of the merged graph enters no id that was merged away
merged-target : (g : Graph) (p q u v : ℕ) → (Merged g p q).edge u v ≡ true → v ≢ q
merged-target g p q u v k =
    let ab : ((not (u == q) && not (v == q)) ≡ true) × ((g.edge u v || (u == p && g.edge q v) || (v == p && g.edge u q) || (u == p && v == p && g.edge q q)) ≡ true) =
    and_parts (not (u == q) && not (v == q)) (g.edge u v || (u == p && g.edge q v) || (v == p && g.edge u q) || (u == p && v == p && g.edge q q)) k in
    let cd : (not (u == q) ≡ true) × (not (v == q) ≡ true) = and_parts (not (u == q)) (not (v == q)) ab.0 in
    eqb-false v q (not-true (v == q) cd.1)

-- a walk of the merged graph does not go to the id that was merged away
walk-avoids : (g : Graph) (p q u : ℕ) (xs : List ℕ) (r : ℕ) → Walk (Merged g p q) u xs r → AllByRecursion (λ x. x ≢ q) xs
walk-avoids g p q u [] r w = tt
walk-avoids g p q u (x ∷ xs) r w = (merged-target g p q u x w.0, walk-avoids g p q x xs r w.1)

-- no path of the merged graph names the id that was merged away
pub merged_paths_avoid : MergedPathsAvoid
merged_paths_avoid g p q l [] i = absurd i
merged_paths_avoid g p q l (x ∷ xs) i = ((λ e. let z : x ≡ 0 = i.0 in absurd (omega arith)), walk-avoids g p q x xs 1 i.1)
