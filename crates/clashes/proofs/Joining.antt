-- Marks before they propagate: none, or those of a graph in which two partitions were then merged.
use Rattle.std.proofs.Common.{◌≡◌, ◌≢◌, ℕ, ◌<◌, ◌≤◌, ◌||◌, true, List, [], ◌∷◌, ◌++◌, map, Some, slice_get, refl, sym, ap, ap₂, ◌∙◌, subst, arith, inl, inr}
use Rattle.std.proofs.lemmas.Bool.{cases_eq, cases_lt, or_cases, or_left, or_right, both_ways, eqb-true}
use Rattle.limits.specs.declared.TheConstants.{MAX_PARTITIONS, INITIAL, TERMINAL, FIRST_TYPE}
use Rattle.invariants.specs.declared.Invariant.{Invariant}
use Rattle.invariants.specs.Monitors.{step, run, is_bad, bad_of}
use Rattle.partition_model.specs.Graphs.{Graph, Walk, word, Satisfies, IsFormed, Merged}
use Rattle.partition_model.specs.Assignments.{Assignment, G, IsTyped, type_of}
use Rattle.partition_model.specs.Coarsening.{merge, onto, IsPair}
use Rattle.partition_model.proofs.Paths.{Maps, walk_maps, satisfies_maps}
use Rattle.partition_model.proofs.Naming.{typed_from}
use Rattle.partition_model.proofs.Merging.{merge_maps, merge_to_merged, merged_parts, merge_typed, onto_same, onto_other}
use Rattle.partition_model.proofs.Passes.{live-back}
use Rattle.partition_model.proofs.Forming.{graphs_are_formed}
use Rattle.partition_graph.specs.Parts.{HasEdgesBelow}
use Rattle.merge_law.specs.Critical.{critical, Fore, Back, IsOnPath, Enters, Stays, Falls}
use Rattle.merge_law.proofs.Walks.{walk_join, all_on_paths}
use Rattle.merge_law.proofs.Rules.{fore_follows, back_follows}
use Rattle.clashes.specs.Marks.{Marks, on, AreMarksOf}
use Rattle.clashes.specs.Changes.{IsBlankBelow, IsJoined}
use Rattle.clashes.specs.Growing.{AreSound, HasBegun, AreEntered, IsClosedBeside}
use Rattle.clashes.proofs.Sound.{get_back, ends_on_paths, enters_is, stays_is, falls_is}

walk_below : (g : Graph) (n u : ℕ) (xs : List ℕ) (p : ℕ) → HasEdgesBelow g n → u < n → Walk g u xs p → p < n
walk_below g n u [] p h l w = subst (λ (x : ℕ). x < n) w l
walk_below g n u (x ∷ xs) p h l w = walk_below g n x xs p h (h u x w.0).1 w.1

-- where no mark is on, all that marks tell is so
pub blank_sound : (marks : Marks) (g : Graph) (n : ℕ) → HasEdgesBelow g n → FIRST_TYPE ≤ n → IsBlankBelow marks n → AreSound marks g
blank_sound marks g n h two b =
    record {
      fore = λ k p inv get sat l path hit. absurd (both_ways (on marks.fores p k) (b.fores k p (walk_below g n INITIAL path.0 p h (omega arith) path.2)) hit);
      back = λ k p inv get sat l path hit. absurd (both_ways (on marks.backs p k) (b.backs k p (walk_below g n INITIAL path.0 p h (omega arith) path.2)) hit);
    }

maps_word : (f : ℕ → ℕ) (g k : Graph) → Maps f g k → (u : ℕ) (xs : List ℕ) (v : ℕ) → Walk g u xs v → word k (map f xs) ≡ word g xs
maps_word f g k m u [] v w = refl
maps_word f g k m u (x ∷ xs) v w = ap₂ (λ (t : ℕ) (ts : List ℕ). t ∷ ts) (m.types u x w.0) (maps_word f g k m x xs v w.1)

fore_carried : (f : ℕ → ℕ) (g k : Graph) (inv : Invariant) (u : ℕ) → Maps f g k → Fore inv g u → Fore inv k (f u)
fore_carried f g k inv u m o = (
  map f o.0,
  subst (λ (x : ℕ). Walk k x (map f o.0) (f u)) m.zero_is (walk_maps f g k m 0 o.0 u o.1),
  ap₂ (λ (t : ℕ) (ts : List ℕ). run inv 0 (t ∷ ts)) m.start (maps_word f g k m 0 o.0 u o.1) ∙ o.2,
)

back_carried : (f : ℕ → ℕ) (g k : Graph) (inv : Invariant) (u : ℕ) → Maps f g k → Back inv g u → Back inv k (f u)
back_carried f g k inv u m o = (
  map f o.0,
  subst (λ (x : ℕ). Walk k (f u) (map f o.0) x) m.one_is (walk_maps f g k m u o.0 1 o.1),
  ap (λ (ts : List ℕ). is_bad inv (run inv (critical inv) ts)) (maps_word f g k m u o.0 1 o.1) ∙ o.2,
)

walk_listed : (g : Graph) (u : ℕ) (xs : List ℕ) (p : ℕ) → IsFormed g → g.listed u ≡ true → Walk g u xs p → g.listed p ≡ true
walk_listed g u [] p f l w = subst (λ (x : ℕ). g.listed x ≡ true) w l
walk_listed g u (x ∷ xs) p f l w = walk_listed g x xs p f (f.between u x w.0).1 w.1

-- after a merge of a pair each id has one type still
pub merged_typed : (h : Assignment) (p q : ℕ) → IsTyped h → IsPair (G h) p q → IsTyped (merge p q h)
merged_typed h p q t i = typed_from (λ x. type_of h x) (merge p q h) (merge_typed h p q t i)

-- an id on a path after a merge was on one before it
path_before : (h : Assignment) (p q r : ℕ) → IsTyped h → IsPair (G h) p q → IsOnPath (G (merge p q h)) r → IsOnPath (G h) r
path_before h p q r t i path =
    let f : IsFormed (G (merge p q h)) = graphs_are_formed (merge p q h) (merged_typed h p q t i) in
    let o : IsOnPath (G h) p = all_on_paths h p t i.low i.has_p in
    let whole : Walk (G h) 0 (o.0 ++ o.1) 1 = walk_join (G h) 0 o.0 p o.1 1 o.2 o.3 in
    elim (cases_lt r 2) [
      | inl low ↦ elim (cases_eq r 0) [
        | inl e ↦ subst (λ (x : ℕ). IsOnPath (G h) x) (sym e) ([], o.0 ++ o.1, refl, whole)
        | inr ne ↦ let e : 1 ≡ r = omega arith in subst (λ (x : ℕ). IsOnPath (G h) x) e (o.0 ++ o.1, [], whole, refl)
      ]
      | inr high ↦ all_on_paths h r t high (live-back h p q r i high (walk_listed (G (merge p q h)) 0 path.0 r f f.start_listed path.2))
    ]

-- after a merge the marks that went from q to p tell what is so
pub joined_sound : (h : Assignment) (p q : ℕ) (old new : Marks) → IsTyped h → IsPair (G h) p q → q < MAX_PARTITIONS → AreMarksOf old (G h) → IsJoined old new p q → AreSound new (G (merge p q h))
joined_sound h p q old new t i lq had j =
    let m : Maps (onto p q) (G h) (G (merge p q h)) = merge_maps h p q t i in
    let order : p < q = i.order in
    let low : 2 ≤ p = i.low in
    let ne : p ≢ q = λ e. absurd (omega arith) in
    let lp : p < MAX_PARTITIONS = omega arith in
    let path-p : IsOnPath (G h) p = all_on_paths h p t i.low i.has_p in
    let path-q : IsOnPath (G h) q = all_on_paths h q t (omega arith) i.has_q in
    record {
      fore = λ k r inv get sat l path hit.
          let get' : slice_get old.invs k ≡ Some inv = get_back old new k inv j.invs get in
          let before : Satisfies (G h) inv = satisfies_maps (onto p q) (G h) (G (merge p q h)) m inv sat in
          elim (cases_eq r q) [
            | inl e ↦ absurd (both_ways (on new.fores r k) (ap (λ (x : ℕ). on new.fores x k) e ∙ j.fore_gone k) hit)
            | inr nq ↦ elim (cases_eq r p) [
              | inl e ↦
                  let b : (on old.fores p k || on old.fores q k) ≡ true = sym (j.fore k) ∙ ap (λ (x : ℕ). on new.fores x k) (sym e) ∙ hit in
                  subst (λ (x : ℕ). Fore inv (G (merge p q h)) x) (sym e) (elim (or_cases (on old.fores p k) (on old.fores q k) b) [
                    | inl of-p ↦ subst (λ (x : ℕ). Fore inv (G (merge p q h)) x) (onto_other p q p ne) (fore_carried (onto p q) (G h) (G (merge p q h)) inv p m ((had.fore k p inv get' before lp path-p).0 of-p))
                    | inr of-q ↦ subst (λ (x : ℕ). Fore inv (G (merge p q h)) x) (onto_same p q) (fore_carried (onto p q) (G h) (G (merge p q h)) inv q m ((had.fore k q inv get' before lq path-q).0 of-q))
                  ])
              | inr np ↦
                  let o : on old.fores r k ≡ true = sym (j.fores k r np nq) ∙ hit in
                  subst (λ (x : ℕ). Fore inv (G (merge p q h)) x) (onto_other p q r nq) (fore_carried (onto p q) (G h) (G (merge p q h)) inv r m ((had.fore k r inv get' before l (path_before h p q r t i path)).0 o))
            ]
          ];
      back = λ k r inv get sat l path hit.
          let get' : slice_get old.invs k ≡ Some inv = get_back old new k inv j.invs get in
          let before : Satisfies (G h) inv = satisfies_maps (onto p q) (G h) (G (merge p q h)) m inv sat in
          elim (cases_eq r q) [
            | inl e ↦ absurd (both_ways (on new.backs r k) (ap (λ (x : ℕ). on new.backs x k) e ∙ j.back_gone k) hit)
            | inr nq ↦ elim (cases_eq r p) [
              | inl e ↦
                  let b : (on old.backs p k || on old.backs q k) ≡ true = sym (j.back k) ∙ ap (λ (x : ℕ). on new.backs x k) (sym e) ∙ hit in
                  subst (λ (x : ℕ). Back inv (G (merge p q h)) x) (sym e) (elim (or_cases (on old.backs p k) (on old.backs q k) b) [
                    | inl of-p ↦ subst (λ (x : ℕ). Back inv (G (merge p q h)) x) (onto_other p q p ne) (back_carried (onto p q) (G h) (G (merge p q h)) inv p m ((had.back k p inv get' before lp path-p).0 of-p))
                    | inr of-q ↦ subst (λ (x : ℕ). Back inv (G (merge p q h)) x) (onto_same p q) (back_carried (onto p q) (G h) (G (merge p q h)) inv q m ((had.back k q inv get' before lq path-q).0 of-q))
                  ])
              | inr np ↦
                  let o : on old.backs r k ≡ true = sym (j.backs k r np nq) ∙ hit in
                  subst (λ (x : ℕ). Back inv (G (merge p q h)) x) (onto_other p q r nq) (back_carried (onto p q) (G h) (G (merge p q h)) inv r m ((had.back k r inv get' before l (path_before h p q r t i path)).0 o))
            ]
          ];
    }

lift_fore : (old new : Marks) (p q k y : ℕ) → p ≢ q → IsJoined old new p q → on old.fores y k ≡ true → on new.fores (onto p q y) k ≡ true
lift_fore old new p q k y ne j hit =
    elim (cases_eq y q) [
      | inl e ↦
          ap (λ (x : ℕ). on new.fores x k) (ap (onto p q) e ∙ onto_same p q) ∙ j.fore k
          ∙ or_right (on old.fores p k) (on old.fores q k) (ap (λ (x : ℕ). on old.fores x k) (sym e) ∙ hit)
      | inr nq ↦ elim (cases_eq y p) [
        | inl e ↦
            ap (λ (x : ℕ). on new.fores x k) (onto_other p q y nq ∙ e) ∙ j.fore k
            ∙ or_left (on old.fores p k) (on old.fores q k) (ap (λ (x : ℕ). on old.fores x k) (sym e) ∙ hit)
        | inr np ↦ ap (λ (x : ℕ). on new.fores x k) (onto_other p q y nq) ∙ j.fores k y np nq ∙ hit
      ]
    ]

lift_back : (old new : Marks) (p q k y : ℕ) → p ≢ q → IsJoined old new p q → on old.backs y k ≡ true → on new.backs (onto p q y) k ≡ true
lift_back old new p q k y ne j hit =
    elim (cases_eq y q) [
      | inl e ↦
          ap (λ (x : ℕ). on new.backs x k) (ap (onto p q) e ∙ onto_same p q) ∙ j.back k
          ∙ or_right (on old.backs p k) (on old.backs q k) (ap (λ (x : ℕ). on old.backs x k) (sym e) ∙ hit)
      | inr nq ↦ elim (cases_eq y p) [
        | inl e ↦
            ap (λ (x : ℕ). on new.backs x k) (onto_other p q y nq ∙ e) ∙ j.back k
            ∙ or_left (on old.backs p k) (on old.backs q k) (ap (λ (x : ℕ). on old.backs x k) (sym e) ∙ hit)
        | inr np ↦ ap (λ (x : ℕ). on new.backs x k) (onto_other p q y nq) ∙ j.backs k y np nq ∙ hit
      ]
    ]

-- an edge of the graph after the merge stands for one before it
pub record EdgeBefore (h : Assignment) (p q u v : ℕ) : Type 0 where
  pub x : ℕ
  pub y : ℕ
  pub from : onto p q x ≡ u
  pub to : onto p q y ≡ v
  pub edge : (G h).edge x y ≡ true
  pub typ : (G (merge p q h)).typ v ≡ (G h).typ y
  pub path_x : IsOnPath (G h) x
  pub path_y : IsOnPath (G h) y

edge_before : (h : Assignment) (p q u v : ℕ) → IsTyped h → IsPair (G h) p q → (G (merge p q h)).edge u v ≡ true → EdgeBefore h p q u v
edge_before h p q u v t i edge =
    let m : Maps (λ x. x) (G (merge p q h)) (Merged (G h) p q) = merge_to_merged h p q t i in
    let o : (x y : ℕ) × (onto p q x ≡ u) × (onto p q y ≡ v) × ((G h).edge x y ≡ true) = merged_parts (G h) p q u v (m.edges u v edge) in
    let n : Maps (onto p q) (G h) (G (merge p q h)) = merge_maps h p q t i in
    let e : IsOnPath (G h) o.0 × IsOnPath (G h) o.1 = ends_on_paths h t o.0 o.1 o.4 in
    record {
      x = o.0;
      y = o.1;
      from = o.2;
      to = o.3;
      edge = o.4;
      typ = ap (λ (z : ℕ). (G (merge p q h)).typ z) (sym o.3) ∙ n.types o.0 o.1 o.4;
      path_x = e.0;
      path_y = e.1;
    }

below_before : (p q x u : ℕ) → q < MAX_PARTITIONS → onto p q x ≡ u → u < MAX_PARTITIONS → x < MAX_PARTITIONS
below_before p q x u lq e l =
    elim (cases_eq x q) [
      | inl s ↦ subst (λ (z : ℕ). z < MAX_PARTITIONS) (sym s) lq
      | inr n ↦ subst (λ (z : ℕ). z < MAX_PARTITIONS) (sym e ∙ onto_other p q x n) l
    ]

-- an id that is not the merged one stands for itself
itself : (p q x u : ℕ) → onto p q x ≡ u → u ≢ p → (x ≢ q) × (x ≡ u)
itself p q x u e ne =
    elim (cases_eq x q) [
      | inl s ↦ absurd (ne (sym e ∙ ap (onto p q) s ∙ onto_same p q))
      | inr n ↦ (n, sym (onto_other p q x n) ∙ e)
    ]

module _ (h : Assignment) (p q : ℕ) (old new : Marks) (t : IsTyped h) (i : IsPair (G h) p q) (lq : q < MAX_PARTITIONS) (had : AreMarksOf old (G h)) (j : IsJoined old new p q) where
  apart : p ≢ q
  apart = let order : p < q = i.order in λ e. absurd (omega arith)

  before : (inv : Invariant) → Satisfies (G (merge p q h)) inv → Satisfies (G h) inv
  before inv sat = satisfies_maps (onto p q) (G h) (G (merge p q h)) (merge_maps h p q t i) inv sat

  get_old : (k : ℕ) (inv : Invariant) → slice_get new.invs k ≡ Some inv → slice_get old.invs k ≡ Some inv
  get_old k inv get = get_back old new k inv j.invs get

  -- after a merge the two ends have the marks from which all others come
  pub joined_begun : HasBegun new (G (merge p q h))
  joined_begun =
      let low : 2 ≤ p = i.low in
      let order : p < q = i.order in
      let o : IsOnPath (G h) p = all_on_paths h p t i.low i.has_p in
      let whole : Walk (G h) 0 (o.0 ++ o.1) 1 = walk_join (G h) 0 o.0 p o.1 1 o.2 o.3 in
      record {
        fore = λ k inv get sat hit.
            let met : Fore inv (G h) INITIAL = (fore_follows (G h) inv (before inv sat)).0 (eqb-true (step inv 0 INITIAL) (critical inv) hit) in
            j.fores k INITIAL (λ e. absurd (omega arith)) (λ e. absurd (omega arith)) ∙ (had.fore k INITIAL inv (get_old k inv get) (before inv sat) (omega arith) ([], o.0 ++ o.1, refl, whole)).1 met;
        back = λ k inv get sat hit.
            let ahead : Back inv (G h) TERMINAL = (back_follows (G h) inv).0 (eqb-true (critical inv) (bad_of inv.kind) hit) in
            j.backs k TERMINAL (λ e. absurd (omega arith)) (λ e. absurd (omega arith)) ∙ (had.back k TERMINAL inv (get_old k inv get) (before inv sat) (omega arith) (o.0 ++ o.1, [], whole, refl)).1 ahead;
      }

  -- after a merge the marks are there that the edges give at once
  pub joined_entered : ((u v : ℕ) → (G (merge p q h)).edge u v ≡ true → (u < MAX_PARTITIONS) × (v < MAX_PARTITIONS)) → AreEntered new (G (merge p q h))
  joined_entered below u v edge =
      let b : EdgeBefore h p q u v = edge_before h p q u v t i edge in
      record {
        fore = λ k inv get sat hit.
            let e : Enters inv ((G h).typ b.y) = subst (λ (x : ℕ). Enters inv x) b.typ (enters_is inv ((G (merge p q h)).typ v) hit) in
            let met : Fore inv (G h) b.y = (fore_follows (G h) inv (before inv sat)).1 b.x b.y b.path_x b.path_y b.edge (inl e) in
            let marked : on old.fores b.y k ≡ true = (had.fore k b.y inv (get_old k inv get) (before inv sat) (below_before p q b.y v lq b.to (below u v edge).1) b.path_y).1 met in
            ap (λ (x : ℕ). on new.fores x k) (sym b.to) ∙ lift_fore old new p q k b.y apart j marked;
        back = λ k inv get sat hit.
            let e : Falls inv ((G h).typ b.y) = subst (λ (x : ℕ). Falls inv x) b.typ (falls_is inv ((G (merge p q h)).typ v) hit) in
            let ahead : Back inv (G h) b.x = (back_follows (G h) inv).1 b.x b.y b.path_y b.edge (inl e) in
            let marked : on old.backs b.x k ≡ true = (had.back k b.x inv (get_old k inv get) (before inv sat) (below_before p q b.x u lq b.from (below u v edge).0) b.path_x).1 ahead in
            ap (λ (x : ℕ). on new.backs x k) (sym b.from) ∙ lift_back old new p q k b.x apart j marked;
      }

  -- after a merge nothing more propagates along any edge but those of p
  pub joined_closed : ((u v : ℕ) → (G (merge p q h)).edge u v ≡ true → (u < MAX_PARTITIONS) × (v < MAX_PARTITIONS)) → IsClosedBeside new (G (merge p q h)) p
  joined_closed below u v edge nu nv =
      let b : EdgeBefore h p q u v = edge_before h p q u v t i edge in
      let xu : (b.x ≢ q) × (b.x ≡ u) = itself p q b.x u b.from nu in
      let yv : (b.y ≢ q) × (b.y ≡ v) = itself p q b.y v b.to nv in
      let uq : u ≢ q = λ e. xu.0 (xu.1 ∙ e) in
      let vq : v ≢ q = λ e. yv.0 (yv.1 ∙ e) in
      let path-u : IsOnPath (G h) u = subst (λ (x : ℕ). IsOnPath (G h) x) xu.1 b.path_x in
      let path-v : IsOnPath (G h) v = subst (λ (x : ℕ). IsOnPath (G h) x) yv.1 b.path_y in
      let old-edge : (G h).edge u v ≡ true = ap₂ (λ (x y : ℕ). (G h).edge x y) (sym xu.1) (sym yv.1) ∙ b.edge in
      let typ : (G (merge p q h)).typ v ≡ (G h).typ v = b.typ ∙ ap (λ (x : ℕ). (G h).typ x) yv.1 in
      record {
        fore = λ k inv get sat stay hit.
            let e : Stays inv ((G h).typ v) = subst (λ (x : ℕ). Stays inv x) typ (stays_is inv ((G (merge p q h)).typ v) stay) in
            let met : Fore inv (G h) u = (had.fore k u inv (get_old k inv get) (before inv sat) (below u v edge).0 path-u).0 (sym (j.fores k u nu uq) ∙ hit) in
            let then : Fore inv (G h) v = (fore_follows (G h) inv (before inv sat)).1 u v path-u path-v old-edge (inr (e, met)) in
            j.fores k v nv vq ∙ (had.fore k v inv (get_old k inv get) (before inv sat) (below u v edge).1 path-v).1 then;
        back = λ k inv get sat stay hit.
            let e : Stays inv ((G h).typ v) = subst (λ (x : ℕ). Stays inv x) typ (stays_is inv ((G (merge p q h)).typ v) stay) in
            let ahead : Back inv (G h) v = (had.back k v inv (get_old k inv get) (before inv sat) (below u v edge).1 path-v).0 (sym (j.backs k v nv vq) ∙ hit) in
            let then : Back inv (G h) u = (back_follows (G h) inv).1 u v path-v old-edge (inr (e, ahead)) in
            j.backs k u nu uq ∙ (had.back k u inv (get_old k inv get) (before inv sat) (below u v edge).0 path-u).1 then;
      }
