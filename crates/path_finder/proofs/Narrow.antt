-- A graph in which edges of some ids alone are looked at: which paths it has.
use Rattle.std.proofs.Common.{◌≡◌, ◌≢◌, ◌⊎◌, ◌==◌, ◌&&◌, ◌||◌, not, ℕ, zero, suc, ◌<◌, ◌≤◌, true, false, Bool, List, [], ◌∷◌, sym, ◌∙◌, refl, ap, ap₂, subst₂, inl, inr, arith, ne_eqb, nat_lt}
use Rattle.std.proofs.lemmas.Bool.{cases_Bool, cases_lt, le-ltb, lt-ltb, eq-eqb}
use Rattle.limits.specs.declared.TheConstants.{TERMINAL}
use Rattle.invariants.specs.declared.Invariant.{Invariant}
use Rattle.invariants.specs.declared.Kind.{Kind}
use Rattle.invariants.specs.declared.Kind.TheVariants.{AF, NF, AP, IB}
use Rattle.invariants.specs.Holds.{At, Holds, HoldsAs}
use Rattle.partition_model.specs.Graphs.{Graph, Walk, IsPath, word, Satisfies, IsLeastViolation, Merged}
use Rattle.invariants.specs.Monitors.{run, is_bad}
use Rattle.invariants.proofs.Agree.{monitor_agrees}
use Rattle.path_finder.specs.Nearness.{narrowed, is_of_type, key_of, AvoidsGone}
use Rattle.path_finder.specs.Keeping.{KeepsAround, KeepsViolations}
use Rattle.partition_model.specs.Assignments.{Assignment, G, is_live, members}
use Rattle.partition_model.specs.Listings.{AreBelow}
use Rattle.partition_model.proofs.Forming.{merged_paths_avoid}
use Rattle.partition_graph.specs.declared.view.View.{View}
use Rattle.partition_graph.specs.declared.view.View.TheVariants.{Plain, Merged as ViewMerged}
use Rattle.partition_graph.specs.Parts.{HasEdgesBelow}
use Rattle.partition_graph.specs.Seen.{seen, parts_seen, IsSound}
use Rattle.partition_graph.proofs.UnusedIds.{no_member}

-- an edge that is looked at is one of the graph, between ids that are kept
pub narrowed_edge : (kept : ℕ → Bool) (g : Graph) (p q : ℕ) → (narrowed kept g).edge p q ≡ true → (kept p ≡ true) × (kept q ≡ true) × (g.edge p q ≡ true)
narrowed_edge kept g p q e = from (kept p) (kept q) (g.edge p q) e
  where
    from : (a b c : Bool) → ((a && b) && c) ≡ true → (a ≡ true) × (b ≡ true) × (c ≡ true)
    from true true c e = (refl, refl, e)
    from true false c e = absurd (let x : true ≡ false = sym e in cc)
    from false b c e = absurd (let x : true ≡ false = sym e in cc)

-- an edge of the graph between ids that are kept is looked at
pub kept_edge : (kept : ℕ → Bool) (g : Graph) (p q : ℕ) → kept p ≡ true → kept q ≡ true → g.edge p q ≡ true → (narrowed kept g).edge p q ≡ true
kept_edge kept g p q a b e = ap (λ (x : Bool). (x && kept q) && g.edge p q) a ∙ (ap (λ (x : Bool). x && g.edge p q) b ∙ e)

-- a walk along edges that are looked at is one of the graph
pub narrowed_walk : (kept : ℕ → Bool) (g : Graph) (xs : List ℕ) (x y : ℕ) → Walk (narrowed kept g) x xs y → Walk g x xs y
narrowed_walk kept g [] x y w = w
narrowed_walk kept g (r ∷ rs) x y w = ((narrowed_edge kept g x r w.0).2, narrowed_walk kept g rs r y w.1)

-- a path along edges that are looked at is one of the graph
pub narrowed_path : (kept : ℕ → Bool) (g : Graph) (path : List ℕ) → IsPath (narrowed kept g) path → IsPath g path
narrowed_path kept g [] w = w
narrowed_path kept g (x ∷ xs) w = (w.0, narrowed_walk kept g xs x TERMINAL w.1)

-- where each path that breaks the invariant has its edges looked at, the least violation is that of the graph
pub narrowed_least : (kept : ℕ → Bool) (g : Graph) (inv : Invariant) (path : List ℕ) → KeepsViolations kept g inv → IsLeastViolation (narrowed kept g) inv path → IsLeastViolation g inv path
narrowed_least kept g inv path k l =
    record {
      breaks = (narrowed_path kept g path l.breaks.0, l.breaks.1);
      shortest = λ other b. l.shortest other (k other b, b.1);
      first = λ other b n o. l.first other (k other b, b.1) n o;
    }

-- an invariant holds of a word, or does not
pub holds_or_not : (inv : Invariant) (w : List ℕ) → (Holds inv w → ⊥) ⊎ Holds inv w
holds_or_not inv w =
    elim (cases_Bool (is_bad inv (run inv 0 w))) [
      | inl t ↦ inl (λ h. let x : true ≡ false = sym t ∙ (monitor_agrees inv w).1 h in cc)
      | inr f ↦ inr ((monitor_agrees inv w).0 f)
    ]

-- then where no path along edges that are looked at breaks the invariant, the graph satisfies it
pub narrowed_satisfies : (kept : ℕ → Bool) (g : Graph) (inv : Invariant) → KeepsViolations kept g inv → Satisfies (narrowed kept g) inv → Satisfies g inv
narrowed_satisfies kept g inv k s path w =
    elim (holds_or_not inv (word g path)) [
      | inl n ↦ absurd (n (s path (k path (w, n))))
      | inr h ↦ h
    ]

-- an edge of the merged graph between ids other than the merged one was there before
pub other_edge : (g : Graph) (p q u v : ℕ) → u ≢ p → v ≢ p → (Merged g p q).edge u v ≡ true → g.edge u v ≡ true
other_edge g p q u v a b e =
    from (u == q) (v == q) (g.edge u v) (g.edge q v) (g.edge u q) (g.edge q q) (u == p) (v == p) (ne_eqb u p a) (ne_eqb v p b) e
  where
    from : (x y c d f h s t : Bool) → s ≡ false → t ≡ false → (not x && not y && (c || (s && d) || (t && f) || (s && t && h))) ≡ true → c ≡ true
    from x y true d f h s t m n e = refl
    from true y false d f h s t m n e = absurd (let z : true ≡ false = sym e in cc)
    from false true false d f h s t m n e = absurd (let z : true ≡ false = sym e in cc)
    from false false false d f h true t m n e = absurd (let z : true ≡ false = m in cc)
    from false false false d f h false true m n e = absurd (let z : true ≡ false = n in cc)
    from false false false d f h false false m n e = absurd (let z : true ≡ false = sym e in cc)

-- the edges of a walk from an id ahead are looked at
pub ahead_walk : (kept : ℕ → Bool) (g : Graph) (starts : ℕ → Bool) (k : KeepsAround kept g starts) (xs : List ℕ) (x y : ℕ) → k.ahead x ≡ true → Walk g x xs y → Walk (narrowed kept g) x xs y
ahead_walk kept g starts k [] x y a w = w
ahead_walk kept g starts k (r ∷ rs) x y a w =
    let b : k.ahead r ≡ true = k.reaches.along x r a w.0 in
    (kept_edge kept g x r (k.keeps_ahead x a) (k.keeps_ahead r b) w.0, ahead_walk kept g starts k rs r y b w.1)

-- no id of the list is one of the starts
abbrev pub Avoids : (ℕ → Bool) → List ℕ → Type 0
Avoids starts [] = Unit {0}
Avoids starts (x ∷ xs) = (starts x ≡ false) × Avoids starts xs

-- the edges of a walk are looked at, or it does not go through a start
pub through : (kept : ℕ → Bool) (g : Graph) (starts : ℕ → Bool) (k : KeepsAround kept g starts) (xs : List ℕ) (x y : ℕ) → Walk g x xs y
    → ((k.behind x ≡ true) × Walk (narrowed kept g) x xs y) ⊎ Avoids starts (x ∷ xs)
through kept g starts k [] x y w =
    elim (cases_Bool (starts x)) [
      | inl e ↦ inl (k.comes.first x e, w)
      | inr n ↦ inr (n, tt)
    ]
through kept g starts k (r ∷ rs) x y w =
    elim (cases_Bool (starts x)) [
      | inl e ↦ inl (k.comes.first x e, ahead_walk kept g starts k (r ∷ rs) x y (k.reaches.first x e) w)
      | inr n ↦ elim (through kept g starts k rs r y w.1) [
        | inl b ↦
            let c : k.behind x ≡ true = k.comes.along r x b.0 w.0 in
            inl (c, (kept_edge kept g x r (k.keeps_behind x c) (k.keeps_behind r b.0) w.0, b.1))
        | inr a ↦ inr (n, a)
      ]
    ]

-- where each path that does not go through a start keeps the invariant, those that break it have their edges looked at
pub starts_keep : (kept : ℕ → Bool) (g : Graph) (starts : ℕ → Bool) (inv : Invariant) → KeepsAround kept g starts
    → ((x : ℕ) (xs : List ℕ) → Avoids starts (x ∷ xs) → IsPath g (x ∷ xs) → Holds inv (word g (x ∷ xs))) → KeepsViolations kept g inv
starts_keep kept g starts inv k h [] b = absurd b.0
starts_keep kept g starts inv k h (x ∷ xs) b =
    elim (through kept g starts k xs x TERMINAL b.0.1) [
      | inl t ↦ (b.0.0, t.1)
      | inr a ↦ absurd (b.1 (h x xs a b.0))
    ]

-- another id than the start
other_id : (p x : ℕ) → (x == p) ≡ false → x ≢ p
other_id p x n e = let y : true ≡ false = sym (eq-eqb x p e) ∙ n in cc

-- a walk of the merged graph that does not go through the merged id is one of the graph
pub avoiding_walk : (g : Graph) (p q : ℕ) (xs : List ℕ) (x y : ℕ) → Avoids (λ u. u == p) (x ∷ xs) → Walk (Merged g p q) x xs y → Walk g x xs y
avoiding_walk g p q [] x y a w = w
avoiding_walk g p q (r ∷ rs) x y a w = (other_edge g p q x r (other_id p x a.0) (other_id p r a.1.0) w.0, avoiding_walk g p q rs r y a.1 w.1)

-- what a merge loses goes through the merged id
pub loss_keeps : (kept : ℕ → Bool) (g : Graph) (p q : ℕ) (inv : Invariant) → KeepsAround kept (Merged g p q) (λ u. u == p) → Satisfies g inv → KeepsViolations kept (Merged g p q) inv
loss_keeps kept g p q inv k s =
    starts_keep kept (Merged g p q) (λ u. u == p) inv k (λ x xs a w. s (x ∷ xs) (w.0, avoiding_walk g p q xs x TERMINAL a w.1))

-- a word without the key of the invariant keeps it
lacks_holds : (kind : Kind) (a b : ℕ) (w : List ℕ) → ((i : ℕ) → At w i (key_of kind a b) → ⊥) → HoldsAs kind a b w
lacks_holds AF a b w n = λ i t. absurd (n i t)
lacks_holds NF a b w n = λ i t j l u. n i t
lacks_holds AP a b w n = λ j t. absurd (n j t)
lacks_holds IB a b w n = λ i j t u l. absurd (n i t)

-- the word of a walk that goes through no id of the type lacks it
avoiding_lacks : (g : Graph) (ids typ : ℕ) → HasEdgesBelow g ids → (xs : List ℕ) (x y : ℕ) → x < ids → Avoids (is_of_type g ids typ) (x ∷ xs) → Walk g x xs y → (i : ℕ) → At (word g (x ∷ xs)) i typ → ⊥
avoiding_lacks g ids typ w xs x y l a k zero t =
    let e : is_of_type g ids typ x ≡ true = ap₂ (λ (b c : Bool). b && c) (lt-ltb x ids l) (eq-eqb (g.typ x) typ t) in
    (let z : true ≡ false = sym e ∙ a.0 in cc)
avoiding_lacks g ids typ w [] x y l a k (suc i) t = t
avoiding_lacks g ids typ w (r ∷ rs) x y l a k (suc i) t = avoiding_lacks g ids typ w rs r y (w x r k.0).1 a.1 k.1 i t

-- what breaks an invariant goes through an id of its key
pub key_keeps : (kept : ℕ → Bool) (g : Graph) (ids : ℕ) (inv : Invariant) → 2 ≤ ids → HasEdgesBelow g ids → KeepsAround kept g (is_of_type g ids (key_of inv.kind inv.a inv.b)) → KeepsViolations kept g inv
key_keeps kept g ids inv two w k =
    starts_keep kept g (is_of_type g ids (key_of inv.kind inv.a inv.b)) inv k
    (λ x xs a p. lacks_holds inv.kind inv.a inv.b (word g (x ∷ xs)) (avoiding_lacks g ids (key_of inv.kind inv.a inv.b) w xs x TERMINAL (let z : x ≡ 0 = p.0 in omega arith) a p.1))

-- no path of a merged view names the id that is gone
pub avoids_gone : (v : View) → IsSound v → (path : List ℕ) → IsPath (seen v) path → AvoidsGone v path
avoids_gone (Plain g) s path w = tt
avoids_gone (ViewMerged g p q) s path w = merged_paths_avoid (G (g.now.traces)) p q (let l : 2 ≤ p = s.low in let o : p < q = s.order in omega arith) path w

-- a live partition is below the bound on the ids of events
pub live_below : (h : Assignment) (n p : ℕ) → 2 ≤ p → AreBelow n h → is_live h p ≡ true → p < n
live_below h n p two b l =
    elim (cases_lt p n) [
      | inl lt ↦ lt
      | inr ge ↦
          let z : 0 ≡ members h p = no_member h n b p ge in
          let f : nat_lt p 2 ≡ false = le-ltb p 2 two in
          let d : is_live h p ≡ false = ap (λ (x : Bool). x || nat_lt 0 (members h p)) f ∙ ap (λ (m : ℕ). nat_lt 0 m) (sym z) in
          absurd (let x : true ≡ false = sym l ∙ d in cc)
    ]

-- what breaks the invariant that is asked for has its edges looked at, where ids around those of its key are kept
pub asked_keeps : (v : View) (kept : ℕ → Bool) (inv : Invariant) (ids typ : ℕ) → ids ≡ (parts_seen v).used → 2 ≤ ids → HasEdgesBelow (seen v) ids → typ ≡ key_of inv.kind inv.a inv.b
    → KeepsAround kept (seen v) (is_of_type (seen v) (parts_seen v).used typ) → KeepsViolations kept (seen v) inv
asked_keeps v kept inv ids typ e two w t k =
    key_keeps kept (seen v) ids inv two w (subst₂ (λ (n x : ℕ). KeepsAround kept (seen v) (is_of_type (seen v) n x)) (sym e) t k)

-- the edges of a walk are looked at, where all ids below a bound are kept
all_walk : (kept : ℕ → Bool) (g : Graph) (ids : ℕ) → HasEdgesBelow g ids → ((u : ℕ) → u < ids → kept u ≡ true) → (xs : List ℕ) (x y : ℕ) → Walk g x xs y → Walk (narrowed kept g) x xs y
all_walk kept g ids w k [] x y p = p
all_walk kept g ids w k (r ∷ rs) x y p =
    (kept_edge kept g x r (k x (w x r p.0).0) (k r (w x r p.0).1) p.0, all_walk kept g ids w k rs r y p.1)

-- so what breaks an invariant has its edges looked at there
pub all_keeps : (kept : ℕ → Bool) (g : Graph) (ids : ℕ) (inv : Invariant) → HasEdgesBelow g ids → ((u : ℕ) → u < ids → kept u ≡ true) → KeepsViolations kept g inv
all_keeps kept g ids inv w k [] b = absurd b.0
all_keeps kept g ids inv w k (x ∷ xs) b = (b.0.0, all_walk kept g ids w k xs x TERMINAL b.0.1)
