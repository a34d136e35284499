-- The ids around a merged id.
use Rattle.std.proofs.Common.{◌≡◌, ◌==◌, ◌&&◌, ◌||◌, not, ℕ, Bool, true, false, List, slice_get, Some, sym, refl, subst, inl, inr, ◌⊎◌, eq-eqb}
use Rattle.std.proofs.lemmas.Bool.{true≢false}
use Rattle.partition_model.specs.Graphs.{Graph, Merged}
use Rattle.path_finder.specs.declared.survey.Surrounding.{Surrounding}
use Rattle.path_finder.specs.IdSets.{has_id}
use Rattle.path_finder.specs.Keeping.{KeepsAround}
use Rattle.path_finder.specs.Surveys.{IsSurveyOf}

-- what was kept for one id more
pub kept-too : (old new : List Surrounding) (g : Graph) (t : Surrounding) → IsSurveyOf old g → KeepsAround (has_id t.near) g (λ p. p == t.id)
    → ((k : ℕ) (s : Surrounding) → slice_get new k ≡ Some s → (slice_get old k ≡ Some s) ⊎ (s ≡ t)) → IsSurveyOf new g
kept-too old new g t w h f k s e =
    elim (f k s e) [
      | inl o ↦ w k s o
      | inr n ↦ subst (λ (x : Surrounding). KeepsAround (has_id x.near) g (λ p. p == x.id)) (sym n) h
    ]

either : (x y : Bool) → (x || y) ≡ true → (x ≡ true) ⊎ (y ≡ true)
either true y e = inl refl
either false y e = inr e

or-left : (x y : Bool) → x ≡ true → (x || y) ≡ true
or-left true y e = refl
or-left false y e = absurd (true≢false (sym e))

or-right : (x y : Bool) → y ≡ true → (x || y) ≡ true
or-right true y e = refl
or-right false y e = e

-- an edge of the merged graph is one of the graph, or one of q in place of p, at one end or at both
abbrev pub IsFrom : Graph → ℕ → ℕ → ℕ → ℕ → Type 0
IsFrom g p q u v =
    (g.edge u v ≡ true) ⊎ (((u == p) ≡ true) × (g.edge q v ≡ true)) ⊎ (((v == p) ≡ true) × (g.edge u q ≡ true)) ⊎ (((u == p) ≡ true) × ((v == p) ≡ true))

edge-from : (g : Graph) (p q u v : ℕ) → (Merged g p q).edge u v ≡ true → IsFrom g p q u v
edge-from g p q u v e = from (u == q) (v == q) (g.edge u v) (g.edge q v) (g.edge u q) (g.edge q q) (u == p) (v == p) e
  where
    from : (x y c d f h s t : Bool) → (not x && not y && (c || (s && d) || (t && f) || (s && t && h))) ≡ true
        → (c ≡ true) ⊎ ((s ≡ true) × (d ≡ true)) ⊎ ((t ≡ true) × (f ≡ true)) ⊎ ((s ≡ true) × (t ≡ true))
    from true y c d f h s t e = absurd (let z : true ≡ false = sym e in cc)
    from false true c d f h s t e = absurd (let z : true ≡ false = sym e in cc)
    from false false true d f h s t e = inl refl
    from false false false d f h true true e = inr (inr (inr (refl, refl)))
    from false false false true f h true false e = inr (inl (refl, refl))
    from false false false false f h true false e = absurd (let z : true ≡ false = sym e in cc)
    from false false false d true h false true e = inr (inr (inl (refl, refl)))
    from false false false d false h false true e = absurd (let z : true ≡ false = sym e in cc)
    from false false false d f h false false e = absurd (let z : true ≡ false = sym e in cc)

-- what is around one of two ids is around the merged one
pub around-merged : (g : Graph) (p q : ℕ) (near far kept : ℕ → Bool) → KeepsAround near g (λ u. u == p) → KeepsAround far g (λ u. u == q)
    → ((u : ℕ) → near u ≡ true → kept u ≡ true) → ((u : ℕ) → far u ≡ true → kept u ≡ true) → KeepsAround kept (Merged g p q) (λ u. u == p)
around-merged g p q near far kept a b k l =
    record {
      ahead = λ u. a.ahead u || b.ahead u;
      behind = λ u. a.behind u || b.behind u;
      reaches = record { first = λ u e. or-left (a.ahead u) (b.ahead u) (a.reaches.first u e); along = along-ahead };
      comes = record { first = λ u e. or-left (a.behind u) (b.behind u) (a.comes.first u e); along = along-behind };
      keeps_ahead = λ u e. elim (either (a.ahead u) (b.ahead u) e) [ inl x ↦ k u (a.keeps_ahead u x) | inr y ↦ l u (b.keeps_ahead u y) ];
      keeps_behind = λ u e. elim (either (a.behind u) (b.behind u) e) [ inl x ↦ k u (a.keeps_behind u x) | inr y ↦ l u (b.keeps_behind u y) ];
    }
  where
    at-p : (u : ℕ) → (u == p) ≡ true → (a.ahead u || b.ahead u) ≡ true
    at-p u e = or-left (a.ahead u) (b.ahead u) (a.reaches.first u e)

    behind-p : (u : ℕ) → (u == p) ≡ true → (a.behind u || b.behind u) ≡ true
    behind-p u e = or-left (a.behind u) (b.behind u) (a.comes.first u e)

    along-ahead : (u v : ℕ) → (a.ahead u || b.ahead u) ≡ true → (Merged g p q).edge u v ≡ true → (a.ahead v || b.ahead v) ≡ true
    along-ahead u v m e =
        elim (edge-from g p q u v e) [
          | inl d ↦ elim (either (a.ahead u) (b.ahead u) m) [
            | inl x ↦ or-left (a.ahead v) (b.ahead v) (a.reaches.along u v x d)
            | inr y ↦ or-right (a.ahead v) (b.ahead v) (b.reaches.along u v y d)
          ]
          | inr r ↦ elim r [
            | inl d ↦ or-right (a.ahead v) (b.ahead v) (b.reaches.along q v (b.reaches.first q (eq-eqb q q refl)) d.1)
            | inr s ↦ elim s [ inl d ↦ at-p v d.0 | inr d ↦ at-p v d.1 ]
          ]
        ]

    along-behind : (u v : ℕ) → (a.behind u || b.behind u) ≡ true → (Merged g p q).edge v u ≡ true → (a.behind v || b.behind v) ≡ true
    along-behind u v m e =
        elim (edge-from g p q v u e) [
          | inl d ↦ elim (either (a.behind u) (b.behind u) m) [
            | inl x ↦ or-left (a.behind v) (b.behind v) (a.comes.along u v x d)
            | inr y ↦ or-right (a.behind v) (b.behind v) (b.comes.along u v y d)
          ]
          | inr r ↦ elim r [
            | inl d ↦ behind-p v d.0
            | inr s ↦ elim s [
              | inl d ↦ or-right (a.behind v) (b.behind v) (b.comes.along q v (b.comes.first q (eq-eqb q q refl)) d.1)
              | inr d ↦ behind-p v d.0
            ]
          ]
        ]
