-- A split is undone by giving the moved events their old id.
use Rattle.partition_model.specs.Assignments.{renamed_event}
use Rattle.std.proofs.Common.{◌≡◌, ◌≢◌, ℕ, ◌≤◌, ◌==◌, ◌&&◌, true, false, if◌then◌else◌, List, [], ◌∷◌, ◌++◌, map, sym, refl, ap₂, subst, inl, inr, arith, eq-eqb, ne_eqb, eqb-true}
use Rattle.std.proofs.lemmas.Bool.{cases_Bool, and_parts}
use Rattle.std.specs.List.{AllByRecursion}
use Rattle.partition_model.specs.Assignments.{Event, Assignment, events, G, AllEvents, IsTyped, renamed}
use Rattle.partition_model.specs.Refinement.{split, split_trace, moved_id, next_id}
use Rattle.partition_model.specs.Laws.{IsDivided, DivisionShrinks, DivisionKeeps, SplitIsDivision, SplitShrinks, SplitKeeps}
use Rattle.partition_model.proofs.Paths.{Maps, accepts_maps, satisfies_maps}
use Rattle.partition_model.proofs.Naming.{renamed_maps}

-- p for the new id n, and each other id for itself
abbrev pub back : ℕ → ℕ → ℕ → ℕ
back p n x = if x == n then p else x

-- an event gets its old id back
back_moved : (p q n : ℕ) (e : Event) (es : List Event) → e.id ≢ n → back p n (moved_id p q n e es) ≡ e.id
back_moved p q n e es f =
    elim (cases_Bool (e.id == p && next_id es == q)) [
      | inl t ↦
          let a : e.id ≡ p = eqb-true e.id p (and_parts (e.id == p) (next_id es == q) t).0 in
          let b : (n == n) ≡ true = eq-eqb n n refl in
          rw (t, b) (sym a)
      | inr g ↦ let b : (e.id == n) ≡ false = ne_eqb e.id n f in rw (g, b)
    ]

-- and so does each event of a trace
trace_back : (p q n : ℕ) (t : List Event) → AllByRecursion (λ e. e.id ≢ n) t → map (renamed_event (back p n)) (split_trace p q n t) ≡ t
trace_back p q n [] f = refl
trace_back p q n (e ∷ es) f =
    let a : back p n (moved_id p q n e es) ≡ e.id = back_moved p q n e es f.0 in
    let r : map (renamed_event (back p n)) (split_trace p q n es) ≡ es = trace_back p q n es f.1 in
    ap₂ (λ (x : ℕ) (z : List Event). record { typ = e.typ; id = x } ∷ z) a r

-- what holds of both lists holds of the first
all_left : (P : Event → Type 0) (xs ys : List Event) → AllByRecursion P (xs ++ ys) → AllByRecursion P xs
all_left P [] ys a = tt
all_left P (x ∷ xs) ys a = (a.0, all_left P xs ys a.1)

-- what holds of both lists holds of the second
all_right : (P : Event → Type 0) (xs ys : List Event) → AllByRecursion P (xs ++ ys) → AllByRecursion P ys
all_right P [] ys a = a
all_right P (x ∷ xs) ys a = all_right P xs ys a.1

-- a split is undone by the old id in place of the new one
pub split_back : (p q n : ℕ) (h : Assignment) → AllEvents (λ e. e.id ≢ n) h → renamed (back p n) (split p q n h) ≡ h
split_back p q n [] f = refl
split_back p q n (t ∷ h) f =
    ap₂ (λ (x : List Event) (z : Assignment). x ∷ z)
    (trace_back p q n t (all_left (λ e. e.id ≢ n) t (events h) f))
    (split_back p q n h (all_right (λ e. e.id ≢ n) t (events h) f))

-- a division is undone by the old id in place of the new one
pub division_maps : (h divided : Assignment) (p n : ℕ) → IsTyped h → IsDivided p n h divided → Maps (back p n) (G divided) (G h)
division_maps h divided p n t d =
    let l : 2 ≤ n = d.fresh.0 in
    let e : renamed (back p n) divided ≡ h = d.undone in
    let z : back p n 0 ≡ 0 = rw (ne_eqb 0 n (λ x. absurd (omega arith))) in
    let o : back p n 1 ≡ 1 = rw (ne_eqb 1 n (λ x. absurd (omega arith))) in
    let t' : IsTyped (renamed (back p n) divided) = subst (λ (k : Assignment). IsTyped k) (sym e) t in
    subst (λ (k : Assignment). Maps (back p n) (G divided) (G k)) e (renamed_maps (back p n) z o divided t')

-- every word of a path after a division was a word of a path before
pub division_shrinks : DivisionShrinks
division_shrinks h divided p n t d w a = accepts_maps (back p n) (G divided) (G h) (division_maps h divided p n t d) w a

-- an invariant that is satisfied stays so through a division
pub division_keeps : DivisionKeeps
division_keeps h divided p n t d inv s = satisfies_maps (back p n) (G divided) (G h) (division_maps h divided p n t d) inv s

-- a split is a division
pub split_is_division : SplitIsDivision
split_is_division h p q n f = record { fresh = f; undone = split_back p q n h f.1 }

-- every word of a path after a split was a word of a path before
pub split_shrinks : SplitShrinks
split_shrinks h p q n t f w a = division_shrinks h (split p q n h) p n t (split_is_division h p q n f) w a

-- an invariant that is satisfied stays so through a split
pub split_keeps : SplitKeeps
split_keeps h p q n t f inv s = division_keeps h (split p q n h) p n t (split_is_division h p q n f) inv s
