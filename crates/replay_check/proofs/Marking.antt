-- Rows of edges, as they are marked.
use Rattle.std.proofs.Common.{◌≡◌, ◌≢◌, ℕ, ◌+◌, ◌<◌, ◌≤◌, ◌==◌, ◌&&◌, ◌||◌, if◌then◌else◌, nat_lt, Bool, true, false, List, [], ◌∷◌, length, set, replicate, drop, get_or, refl, sym, ◌∙◌, ap, ap₂, arith, inl, inr, eq-eqb, ne_eqb, eqb-true, true≢false}
use Rattle.std.proofs.lemmas.Bool.{cases_eq, cases_lt, cases_Bool, lt-ltb, le-ltb, and_parts}
use Rattle.std.proofs.Math.Bool.{or-false, or-true, or_assoc}
use Rattle.std.proofs.lemmas.List.{get_or-set_same, get_or-set_other, get_or-replicate, get_or_past, length-replicate, drop_more, drop_all}
use Rattle.limits.specs.declared.TheConstants.{MAX_PARTITIONS}
use Rattle.bit_rows.specs.Tables.{row_at, is_set, HasShape}
use Rattle.partition_model.specs.Assignments.{Assignment, IsTyped}
use Rattle.replay_check.specs.Laid.{laid, edges_along, step_count}
use Rattle.replay_check.specs.Shown.{has_edge, HasEdges}
use Rattle.replay_check.proofs.Laying.{laid-edges}
use Rattle.replay_check.proofs.Counting.{steps, steps-next, steps-end}

-- ---- writes

-- no bit of an empty row is on
blank : (n k : ℕ) → is_set (replicate n false) k ≡ false
blank n k =
    elim (cases_lt k n) [
      | inl l ↦ get_or-replicate n k false false l
      | inr p ↦ get_or_past (replicate n false) k false (omega (arith, length-replicate n false))
    ]

-- rows that were just made have no edge
pub blank-rows : (n : ℕ) (rows : List (List Bool)) → rows ≡ replicate n (replicate n false) → (p q : ℕ) → p < n → has_edge rows p q ≡ false
blank-rows n rows e p q l = ap (λ (t : List (List Bool)). has_edge t p q) e ∙ ap (λ (row : List Bool). is_set row q) (get_or-replicate n p (replicate n false) [] l) ∙ blank n q

-- a row that is cleared has no edge
pub cleared : (rows : List (List Bool)) (r n q : ℕ) → r < length rows → has_edge (set rows r (replicate n false)) r q ≡ false
cleared rows r n q l = ap (λ (row : List Bool). is_set row q) (get_or-set_same rows r (replicate n false) [] l) ∙ blank n q

-- and the other rows stay
pub not-cleared : (rows : List (List Bool)) (r n p q : ℕ) → p ≢ r → has_edge (set rows r (replicate n false)) p q ≡ has_edge rows p q
not-cleared rows r n p q ne = ap (λ (row : List Bool). is_set row q) (get_or-set_other rows r p (replicate n false) [] ne)

-- where an edge is marked, no other changes
put-bit : (rows : List (List Bool)) (r i : ℕ) → r < length rows → i < length (row_at rows r) → (p q : ℕ)
    → has_edge (set rows r (set (row_at rows r) i true)) p q ≡ (has_edge rows p q || (r == p && i == q))
put-bit rows r i l room p q =
    elim (cases_eq p r) [
      | inr ne ↦
          rw (ne_eqb r p (λ e. ne (sym e)))
          (ap (λ (row : List Bool). is_set row q) (get_or-set_other rows r p (set (row_at rows r) i true) [] ne) ∙ sym (or-false (has_edge rows p q)))
      | inl e ↦ elim (cases_eq q i) [
        | inl f ↦
            rw (eq-eqb r p (sym e), eq-eqb i q (sym f))
            (ap₂ (λ a b. has_edge (set rows r (set (row_at rows r) i true)) a b) e f ∙ ap (λ (row : List Bool). is_set row i) (get_or-set_same rows r (set (row_at rows r) i true) [] l)
            ∙ get_or-set_same (row_at rows r) i true false room ∙ sym (or-true (has_edge rows p q)))
        | inr ne ↦
            rw (eq-eqb r p (sym e), ne_eqb i q (λ f. ne (sym f)))
            (ap (λ a. has_edge (set rows r (set (row_at rows r) i true)) a q) e ∙ ap (λ (row : List Bool). is_set row q) (get_or-set_same rows r (set (row_at rows r) i true) [] l)
            ∙ get_or-set_other (row_at rows r) i q true false ne ∙ sym (ap (λ a. has_edge rows a q) e) ∙ sym (or-false (has_edge rows p q)))
      ]
    ]

bit-is : (b : Bool) → b ≡ nat_lt 0 (if b then 1 else 0)
bit-is true = refl
bit-is false = refl

-- a step is marked where no trace begins
pub step-marked : (rows : List (List Bool)) (r i : ℕ) → HasShape rows MAX_PARTITIONS MAX_PARTITIONS → r < MAX_PARTITIONS → i < MAX_PARTITIONS → i ≢ 0 → (p q : ℕ)
    → has_edge (set rows r (set (row_at rows r) i true)) p q ≡ (has_edge rows p q || nat_lt 0 (step_count r i p q))
step-marked rows r i shape l m n p q =
    let count : length rows ≡ MAX_PARTITIONS = shape.count in
    let long : length (row_at rows r) ≡ MAX_PARTITIONS = shape.long r l in
    rw (ne_eqb i 0 n) (put-bit rows r i (omega arith) (omega arith) p q ∙ ap (λ b. has_edge rows p q || b) (bit-is (r == p && i == q)))

-- and none where one does
pub step-none : (rows : List (List Bool)) (r i : ℕ) → i ≡ 0 → (p q : ℕ) → has_edge rows p q ≡ (has_edge rows p q || nat_lt 0 (step_count r i p q))
step-none rows r i e p q = rw (eq-eqb i 0 e) (sym (or-false (has_edge rows p q)))

and-true : (b : Bool) → (b && true) ≡ b
and-true true = refl
and-true false = refl

and-false : (b : Bool) → (b && false) ≡ false
and-false true = refl
and-false false = refl

-- where a mark is taken away, no other changes
drop-bit : (rows : List (List Bool)) (r i : ℕ) → r < length rows → i < length (row_at rows r) → (p q : ℕ)
    → has_edge (set rows r (set (row_at rows r) i false)) p q ≡ (has_edge rows p q && ((if r == p && i == q then 1 else 0) == 0))
drop-bit rows r i l room p q =
    elim (cases_eq p r) [
      | inr ne ↦
          rw (ne_eqb r p (λ e. ne (sym e)))
          (ap (λ (row : List Bool). is_set row q) (get_or-set_other rows r p (set (row_at rows r) i false) [] ne) ∙ sym (and-true (has_edge rows p q)))
      | inl e ↦ elim (cases_eq q i) [
        | inl f ↦
            rw (eq-eqb r p (sym e), eq-eqb i q (sym f))
            (ap₂ (λ a b. has_edge (set rows r (set (row_at rows r) i false)) a b) e f ∙ ap (λ (row : List Bool). is_set row i) (get_or-set_same rows r (set (row_at rows r) i false) [] l)
            ∙ get_or-set_same (row_at rows r) i false false room ∙ sym (and-false (has_edge rows p q)))
        | inr ne ↦
            rw (eq-eqb r p (sym e), ne_eqb i q (λ f. ne (sym f)))
            (ap (λ a. has_edge (set rows r (set (row_at rows r) i false)) a q) e ∙ ap (λ (row : List Bool). is_set row q) (get_or-set_same rows r (set (row_at rows r) i false) [] l)
            ∙ get_or-set_other (row_at rows r) i q false false ne ∙ sym (ap (λ a. has_edge rows a q) e) ∙ sym (and-true (has_edge rows p q)))
      ]
    ]

-- the mark of a step is taken away where no trace begins
pub step-unmarked : (rows : List (List Bool)) (r i : ℕ) → HasShape rows MAX_PARTITIONS MAX_PARTITIONS → r < MAX_PARTITIONS → i < MAX_PARTITIONS → i ≢ 0 → (p q : ℕ)
    → has_edge (set rows r (set (row_at rows r) i false)) p q ≡ (has_edge rows p q && (step_count r i p q == 0))
step-unmarked rows r i shape l m n p q =
    let count : length rows ≡ MAX_PARTITIONS = shape.count in
    let long : length (row_at rows r) ≡ MAX_PARTITIONS = shape.long r l in
    rw (ne_eqb i 0 n) (drop-bit rows r i (omega arith) (omega arith) p q)

-- and none where one does
pub step-left : (rows : List (List Bool)) (r i : ℕ) → i ≡ 0 → (p q : ℕ) → has_edge rows p q ≡ (has_edge rows p q && (step_count r i p q == 0))
step-left rows r i e p q = rw (eq-eqb i 0 e) (sym (and-true (has_edge rows p q)))

-- ---- the walk

-- a sum is above 0 where one of the two is
above : (a b : ℕ) → nat_lt 0 (a + b) ≡ (nat_lt 0 a || nat_lt 0 b)
above a b =
    elim (cases_lt 0 a) [
      | inl l ↦ lt-ltb 0 (a + b) (omega arith) ∙ sym (ap (λ x. x || nat_lt 0 b) (lt-ltb 0 a l))
      | inr m ↦ (let e : a + b ≡ b = omega arith in ap (λ n. nat_lt 0 n) e ∙ sym (ap (λ x. x || nat_lt 0 b) (le-ltb 0 a m)))
    ]

-- the marks and what is left of the ids give the edges along all of them
abbrev pub AreMarks : List (List Bool) → List ℕ → ℕ → List ℕ → Type 0
AreMarks rows ids before rest =
    (p q : ℕ) → p < MAX_PARTITIONS → (has_edge rows p q || nat_lt 0 (steps p q (before ∷ rest))) ≡ nat_lt 0 (edges_along p q ids)

-- so it is before the first
pub marks-first : (rows : List (List Bool)) (ids : List ℕ) → ((p q : ℕ) → p < MAX_PARTITIONS → has_edge rows p q ≡ false) → AreMarks rows ids 1 ids
marks-first rows ids none p q l = ap (λ b. b || nat_lt 0 (steps p q (1 ∷ ids))) (none p q l)

-- behind the next
pub marks-next : (rows now : List (List Bool)) (ids : List ℕ) (before i : ℕ) → i < length ids
    → ((p q : ℕ) → has_edge now p q ≡ (has_edge rows p q || nat_lt 0 (step_count before (get_or ids i 0) p q))) → AreMarks rows ids before (drop i ids)
    → AreMarks now ids (get_or ids i 0) (drop (i + 1) ids)
marks-next rows now ids before i l put marks p q m =
    let id : ℕ = get_or ids i 0 in
    let rest : List ℕ = drop (i + 1) ids in
    ap (λ b. b || nat_lt 0 (steps p q (id ∷ rest))) (put p q)
    ∙ or_assoc (has_edge rows p q) (nat_lt 0 (step_count before id p q)) (nat_lt 0 (steps p q (id ∷ rest)))
    ∙ ap (λ b. has_edge rows p q || b) (sym (above (step_count before id p q) (steps p q (id ∷ rest))))
    ∙ ap (λ n. has_edge rows p q || nat_lt 0 n) (sym (steps-next p q before id rest))
    ∙ ap (λ (xs : List ℕ). has_edge rows p q || nat_lt 0 (steps p q (before ∷ xs))) (sym (drop_more ids i 0 l))
    ∙ marks p q m

-- and behind the last
pub marks-last : (rows : List (List Bool)) (ids : List ℕ) (before i : ℕ) → length ids ≤ i → AreMarks rows ids before (drop i ids)
    → (p q : ℕ) → p < MAX_PARTITIONS → has_edge rows p q ≡ nat_lt 0 (edges_along p q ids)
marks-last rows ids before i l marks p q m =
    sym (or-false (has_edge rows p q))
    ∙ ap (λ n. has_edge rows p q || nat_lt 0 n) (sym (steps-end p q before))
    ∙ ap (λ (xs : List ℕ). has_edge rows p q || nat_lt 0 (steps p q (before ∷ xs))) (sym (drop_all i ids l))
    ∙ marks p q m

-- what is marked yet stands along what is left of the ids
abbrev pub AreLeft : List (List Bool) → ℕ → List ℕ → Type 0
AreLeft rows before rest = (p q : ℕ) → p < MAX_PARTITIONS → has_edge rows p q ≡ true → 0 < steps p q (before ∷ rest)

-- so it is before the first
pub left-first : (rows : List (List Bool)) (ids : List ℕ) → ((p q : ℕ) → p < MAX_PARTITIONS → has_edge rows p q ≡ nat_lt 0 (edges_along p q ids)) → AreLeft rows 1 ids
left-first rows ids marks p q l e =
    elim (cases_lt 0 (steps p q (1 ∷ ids))) [
      | inl k ↦ k
      | inr m ↦ absurd (true≢false (sym e ∙ marks p q l ∙ le-ltb 0 (steps p q (1 ∷ ids)) m))
    ]

-- behind the next
pub left-next : (rows now : List (List Bool)) (ids : List ℕ) (before i : ℕ) → i < length ids
    → ((p q : ℕ) → has_edge now p q ≡ (has_edge rows p q && (step_count before (get_or ids i 0) p q == 0))) → AreLeft rows before (drop i ids)
    → AreLeft now (get_or ids i 0) (drop (i + 1) ids)
left-next rows now ids before i l put left p q m e =
    let id : ℕ = get_or ids i 0 in
    let rest : List ℕ = drop (i + 1) ids in
    let both = and_parts (has_edge rows p q) (step_count before id p q == 0) (sym (put p q) ∙ e) in
    let none : step_count before id p q ≡ 0 = eqb-true (step_count before id p q) 0 both.1 in
    let some : 0 < steps p q (before ∷ drop i ids) = left p q m both.0 in
    let next : steps p q (before ∷ drop i ids) ≡ step_count before id p q + steps p q (id ∷ rest) = ap (λ (xs : List ℕ). steps p q (before ∷ xs)) (drop_more ids i 0 l) ∙ steps-next p q before id rest in
    omega arith

-- and behind the last
pub left-last : (rows : List (List Bool)) (ids : List ℕ) (before i : ℕ) → length ids ≤ i → AreLeft rows before (drop i ids)
    → (p q : ℕ) → p < MAX_PARTITIONS → has_edge rows p q ≡ false
left-last rows ids before i l left p q m =
    elim (cases_Bool (has_edge rows p q)) [
      | inr f ↦ f
      | inl t ↦
          let some : 0 < steps p q (before ∷ drop i ids) = left p q m t in
          let none : steps p q (before ∷ drop i ids) ≡ 0 = ap (λ (xs : List ℕ). steps p q (before ∷ xs)) (drop_all i ids l) ∙ steps-end p q before in
          absurd (omega arith)
    ]

-- what is marked along the ids of an assignment are its edges
pub has-edges : (h : Assignment) (ids : List ℕ) (rows : List (List Bool)) → IsTyped h → ids ≡ laid h
    → ((p q : ℕ) → p < MAX_PARTITIONS → has_edge rows p q ≡ nat_lt 0 (edges_along p q ids)) → HasEdges h rows
has-edges h ids rows t e s p q l = s p q l ∙ ap (λ (xs : List ℕ). nat_lt 0 (edges_along p q xs)) e ∙ ap (λ n. nat_lt 0 n) (laid-edges h t p q)
