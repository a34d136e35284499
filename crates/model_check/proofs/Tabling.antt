-- Tables by ids, and rows of ids: what is laid down, and what is still to come.
use Rattle.std.proofs.Common.{◌≡◌, ℕ, ◌<◌, ◌==◌, ◌||◌, cond, Bool, true, false, List, [], ◌∷◌, length, get_or, set, replicate, refl, sym, ◌∙◌, ap, arith, inl, inr, eq-eqb, ne_eqb, true≢false}
use Rattle.std.proofs.lemmas.Bool.{cases_eq, cases_lt, cases_Bool}
use Rattle.std.proofs.lemmas.List.{get_or-set_same, get_or-set_other, get_or-replicate, get_or_past, length-replicate}
use Rattle.invariants.specs.declared.records.Partition.{Partition}
use Rattle.model_shape.specs.Shapes.{listed_type, is_listed}
use Rattle.models.specs.Models.{label_at}

-- zeros are zeros, and so is what lies past them
pub zeros : (n p : ℕ) → get_or {A = ℕ} (replicate n 0) p 0 ≡ 0
zeros n p = elim (cases_lt p n) [
  | inl l ↦ get_or-replicate n p 0 0 l
  | inr k ↦ get_or_past (replicate n 0) p 0 (omega (arith, length-replicate {A = ℕ} n 0))
]

-- what is still to come, and else what stands in the table
abbrev pub with_table : (listed : ℕ → Bool) (rest : ℕ → ℕ) → List ℕ → ℕ → ℕ
with_table listed rest table p = cond (listed p) (rest p) (get_or table p 0)

-- one value laid down is one less to come
pub table_more : (id value : ℕ) (listed : ℕ → Bool) (rest : ℕ → ℕ) (table : List ℕ) (p : ℕ) → listed id ≡ false → id < length table
    → with_table listed rest (set table id value) p ≡ with_table (λ q. (id == q) || listed q) (λ q. cond (id == q) value (rest q)) table p
table_more id value listed rest table p apart within =
    elim (cases_eq p id) [
      | inl e ↦
          rw (eq-eqb id p (sym e), ap listed e ∙ apart) (ap (λ q. get_or (set table id value) q 0) e ∙ get_or-set_same table id value 0 within)
      | inr n ↦
          rw (ne_eqb id p (λ e. n (sym e))) (ap (cond (listed p) (rest p)) (get_or-set_other table id p value 0 n))
    ]

-- an id that is not listed has the type 0
pub unlisted-type : (p : ℕ) (xs : List Partition) → is_listed p xs ≡ false → listed_type p xs ≡ 0
unlisted-type p [] e = refl
unlisted-type p (x ∷ xs) e =
    elim (cases_Bool (x.id == p)) [
      | inl t ↦ absurd (true≢false (rw t at e))
      | inr f ↦ rw f (unlisted-type p xs (rw f at e))
    ]

-- an id that is not listed has the empty label
pub unlisted-label : (p : ℕ) (xs : List Partition) (labels : List ℕ) → is_listed p xs ≡ false → label_at p xs labels ≡ 0
unlisted-label p [] labels e = refl
unlisted-label p (x ∷ xs) [] e = refl
unlisted-label p (x ∷ xs) (l ∷ labels) e =
    elim (cases_Bool (x.id == p)) [
      | inl t ↦ absurd (true≢false (rw t at e))
      | inr f ↦ rw f (unlisted-label p xs labels (rw f at e))
    ]

-- where nothing stands in the table yet, all is still to come
pub table_none : (listed : ℕ → Bool) (rest : ℕ → ℕ) (table : List ℕ) (p : ℕ) → get_or table p 0 ≡ 0 → (listed p ≡ false → rest p ≡ 0) → with_table listed rest table p ≡ rest p
table_none listed rest table p z u =
    elim (cases_Bool (listed p)) [
      | inl t ↦ rw t refl
      | inr f ↦ rw f (z ∙ sym (u f))
    ]

-- an edge that is marked is one less to come
pub edge_more : (l old new rest W : Bool) → new ≡ (old || l) → (old || (l || rest)) ≡ W → (new || rest) ≡ W
edge_more l true new rest W e h = rw e h
edge_more l false new rest W e h = rw e h

-- a partition that is marked is one less to come
pub mark_more : (l m : Bool) (old mid new rest : Bool) (W : Bool) → mid ≡ (old || l) → new ≡ (mid || m) → (old || (l || m || rest)) ≡ W → (new || rest) ≡ W
mark_more l m old mid new rest W e f h = rw (f, e) (again l m old rest ∙ h)
  where
    again : (l m old rest : Bool) → (((old || l) || m) || rest) ≡ (old || (l || m || rest))
    again l m true rest = refl
    again l m false rest = refl
