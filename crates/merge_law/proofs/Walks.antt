-- Walks that are put together and cut.
use Rattle.std.proofs.Common.{◌≡◌, ℕ, ◌≤◌, ◌<◌, true, false, List, [], ◌∷◌, ◌++◌, map, sym, ◌∙◌, refl, ap, subst, inl, inr, arith, ap₂}
use Rattle.std.proofs.lemmas.Bool.{cases_eq}
use Rattle.invariants.specs.declared.Invariant.{Invariant}
use Rattle.invariants.specs.Monitors.{step, run, is_bad}
use Rattle.invariants.proofs.Agree.{monitor_agrees}
use Rattle.partition_model.specs.Graphs.{Graph, Walk, IsPath, word, Satisfies, Breaks, Merged}
use Rattle.partition_model.specs.Assignments.{Event, id_list, ids_of, word_of, events, G}
use Rattle.partition_model.specs.Coarsening.{onto}
use Rattle.partition_model.proofs.Lists.{In, map-In, events-In, In-append_left}
use Rattle.partition_model.proofs.Paths.{walk_maps}
use Rattle.partition_model.proofs.Merging.{merged_maps, onto_is, onto_other}
use Rattle.partition_model.proofs.Following.{follows}
use Rattle.partition_model.proofs.Passes.{live-member}
use Rattle.merge_law.specs.Critical.{critical}
use Rattle.merge_law.specs.Laws.{AllOnPaths, MergedHasMore}

-- two walks, the second from where the first ends, are one walk
pub walk_join : (g : Graph) (p : ℕ) (xs : List ℕ) (q : ℕ) (ys : List ℕ) (r : ℕ) → Walk g p xs q → Walk g q ys r → Walk g p (xs ++ ys) r
walk_join g p [] q ys r v w = subst (λ (x : ℕ). Walk g x ys r) (sym v) w
walk_join g p (x ∷ xs) q ys r v w = (v.0, walk_join g x xs q ys r v.1 w)

-- the run of two walks joined is that of the second from where the first leaves it
pub run_join : (inv : Invariant) (g : Graph) (s : ℕ) (xs ys : List ℕ) → run inv s (word g (xs ++ ys)) ≡ run inv (run inv s (word g xs)) (word g ys)
run_join inv g s [] ys = refl
run_join inv g s (x ∷ xs) ys = run_join inv g (step inv s (g.typ x)) xs ys

-- no walk from 0 to 1 ends in the bad state, where the invariant is satisfied
pub none_bad : (g : Graph) (inv : Invariant) (walk : List ℕ) → Satisfies g inv → Walk g 0 walk 1 → is_bad inv (run inv 0 (word g (0 ∷ walk))) ≡ true → ⊥
none_bad g inv walk sat w b =
    let f : is_bad inv (run inv 0 (word g (0 ∷ walk))) ≡ false = (monitor_agrees inv (word g (0 ∷ walk))).1 (sat (0 ∷ walk) (refl, w)) in
    let z : true ≡ false = sym b ∙ f in
    cc

-- a walk from 0 to 1 that ends in the bad state breaks the invariant
pub bad_breaks : (g : Graph) (inv : Invariant) (walk : List ℕ) → Walk g 0 walk 1 → is_bad inv (run inv 0 (word g (0 ∷ walk))) ≡ true → Breaks g inv (0 ∷ walk)
bad_breaks g inv walk w b = (
  (refl, w),
  λ h.
      let f : is_bad inv (run inv 0 (word g (0 ∷ walk))) ≡ false = (monitor_agrees inv (word g (0 ∷ walk))).1 h in
      let z : true ≡ false = sym b ∙ f in
      cc,
)

-- an id and its image have one type
pub onto-typed : (g : Graph) (p q x : ℕ) → g.typ p ≡ g.typ q → g.typ (onto p q x) ≡ g.typ x
onto-typed g p q x t =
    elim (cases_eq x q) [
      | inl e ↦ ap g.typ (onto_is p q x e) ∙ t ∙ sym (ap g.typ e)
      | inr n ↦ ap g.typ (onto_other p q x n)
    ]

onto-word : (g : Graph) (p q : ℕ) (xs : List ℕ) → g.typ p ≡ g.typ q → word g (map (onto p q) xs) ≡ word g xs
onto-word g p q [] t = refl
onto-word g p q (x ∷ xs) t = ap₂ (λ (y : ℕ) (z : List ℕ). y ∷ z) (onto-typed g p q x t) (onto-word g p q xs t)

-- a walk and its image in the merged graph run alike
pub moved_run : (g : Graph) (inv : Invariant) (p q s : ℕ) (xs : List ℕ) → g.typ p ≡ g.typ q → run inv s (word g (map (onto p q) xs)) ≡ run inv s (word g xs)
moved_run g inv p q s xs t = ap (λ (z : List ℕ). run inv s z) (onto-word g p q xs t)

-- a walk to 1 has an image in the merged graph
pub moved_to : (g : Graph) (p q u : ℕ) (xs : List ℕ) → 2 ≤ p → p < q → g.typ p ≡ g.typ q → Walk g u xs 1 → Walk (Merged g p q) (onto p q u) (map (onto p q) xs) 1
moved_to g p q u xs l m t w =
    subst (λ (z : ℕ). Walk (Merged g p q) (onto p q u) (map (onto p q) xs) z) (onto_other p q 1 (λ e. absurd (omega arith)))
    (walk_maps (onto p q) g (Merged g p q) (merged_maps g p q l m t) u xs 1 w)

-- a walk from 0 has an image in the merged graph
pub moved_from : (g : Graph) (p q u : ℕ) (xs : List ℕ) → 2 ≤ p → p < q → g.typ p ≡ g.typ q → Walk g 0 xs u → Walk (Merged g p q) 0 (map (onto p q) xs) (onto p q u)
moved_from g p q u xs l m t w =
    subst (λ (z : ℕ). Walk (Merged g p q) z (map (onto p q) xs) (onto p q u)) (onto_other p q 0 (λ e. absurd (omega arith)))
    (walk_maps (onto p q) g (Merged g p q) (merged_maps g p q l m t) 0 xs u w)

-- what is met, ahead or on a path in the graph is so in the merged graph
pub merged_has_more : MergedHasMore
merged_has_more g inv p q u l m t = (
  λ f. (map (onto p q) f.0, moved_from g p q u f.0 l m t f.1, moved_run g inv p q (step inv 0 (g.typ 0)) f.0 t ∙ f.2),
  λ b. (map (onto p q) b.0, moved_to g p q u b.0 l m t b.1, ap (is_bad inv) (moved_run g inv p q (critical inv) b.0 t) ∙ b.2),
  λ o. (map (onto p q) o.0, map (onto p q) o.1, moved_from g p q u o.0 l m t o.2, moved_to g p q u o.1 l m t o.3),
)

-- walks lead from x to y and from y to z
abbrev pub Between : Graph → ℕ → ℕ → ℕ → Type 0
Between g x y z = (before after : List ℕ) × Walk g x before y × Walk g y after z

-- a walk leads through each id on it
pub through : (g : Graph) (x : ℕ) (xs : List ℕ) (z y : ℕ) → Walk g x xs z → In y (x ∷ xs) → Between g x y z
through g x xs z y w (inl e) = ([], xs, e, subst (λ (u : ℕ). Walk g u xs z) e w)
through g x [] z y w (inr i) = absurd i
through g x (r ∷ rs) z y w (inr i) = let o : Between g r y z = through g r rs z y w.1 i in (r ∷ o.0, o.1, (w.0, o.2), o.3)

in-ids : (e : Event) (trace : List Event) → In e trace → In e.id (id_list trace)
in-ids e trace i = inr (In-append_left e.id (ids_of trace) (1 ∷ []) (map-In (λ e. e.id) e trace i))

-- each partition of the graph of an assignment is on a path
pub all_on_paths : AllOnPaths
all_on_paths h p t l k =
    let m : (e : Event) × In e (events h) × (e.id ≡ p) = live-member h p l k in
    let o : (trace : List Event) × In trace h × In m.0 trace = events-In m.0 h m.1 in
    let a : IsPath (G h) (id_list o.0) × (word (G h) (id_list o.0) ≡ word_of o.0) = follows h t o.0 o.1 in
    through (G h) 0 (ids_of o.0 ++ 1 ∷ []) 1 p a.0.1 (subst (λ (x : ℕ). In x (id_list o.0)) m.2 (in-ids m.0 o.0 o.2))
