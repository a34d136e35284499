-- The counts of edges, and the rows that mark them, where the count of one edge is set.
use Rattle.std.proofs.Common.{◌≡◌, ℕ, ◌+◌, ◌-◌, ◌*◌, ◌<◌, ◌⊎◌, ◌==◌, ◌&&◌, Bool, false, cond, ltb, List, length, get_or, slice_set, arith, ap, ap₂, sym, ◌∙◌, inl, inr, refl, eq-eqb, ne_eqb}
use Rattle.std.proofs.lemmas.Bool.{cases_eq, cond-true, cond-false, and_right}
use Rattle.std.proofs.lemmas.List.{get_or-set_same, get_or-set_other, get_or_read}
use Rattle.limits.specs.declared.TheConstants.{MAX_PARTITIONS}
use Rattle.bit_rows.specs.Tables.{row_at, is_set}
use Rattle.partition_graph.specs.Counts.{is_edge}
use Rattle.partition_graph.specs.Marks.{count_in, IsMarked, IsWithBit}

-- an edge is this one, or another
cases_edge : (a b from to : ℕ) → ((a ≡ from) × (b ≡ to)) ⊎ (a ≡ from → b ≡ to → ⊥)
cases_edge a b from to = elim (cases_eq a from) [
  | inl s ↦ elim (cases_eq b to) [ inl t ↦ inl (s, t) | inr far ↦ inr (λ e f. far f) ]
  | inr far ↦ inr (λ e f. far e)
]

-- the count of the edge that is set
set_here : (counts : List ℕ) (from to n a b : ℕ) → to * MAX_PARTITIONS + from < length counts → a ≡ from → b ≡ to → count_in (slice_set counts (to * MAX_PARTITIONS + from) n) a b ≡ n
set_here counts from to n a b inside s t =
    ap₂ (λ x y. count_in (slice_set counts (to * MAX_PARTITIONS + from) n) x y) s t ∙ get_or-set_same counts (to * MAX_PARTITIONS + from) n 0 inside

-- the count of another one
set_far : (counts : List ℕ) (from to n a b : ℕ) → from < MAX_PARTITIONS → a < MAX_PARTITIONS → (a ≡ from → b ≡ to → ⊥) → count_in (slice_set counts (to * MAX_PARTITIONS + from) n) a b ≡ count_in counts a b
set_far counts from to n a b low a_low far =
    get_or-set_other counts (to * MAX_PARTITIONS + from) (b * MAX_PARTITIONS + a) n 0
    (λ e. let t : b ≡ to = omega (arith, e, low, a_low) in far (omega (arith, e, t)) t)

-- one edge, and no other, is this one
edge_here : (from to a b : ℕ) → a ≡ from → b ≡ to → is_edge from to a b ≡ 1
edge_here from to a b s t = cond-true (from == a && to == b) 1 0 (ap₂ (λ x y. x && y) (eq-eqb from a (sym s)) (eq-eqb to b (sym t)))

edge_far : (from to a b : ℕ) → (a ≡ from → b ≡ to → ⊥) → is_edge from to a b ≡ 0
edge_far from to a b far = cond-false (from == a && to == b) 1 0 (elim (cases_eq from a) [
  | inl s ↦ elim (cases_eq to b) [
    | inl t ↦ absurd (far (sym s) (sym t))
    | inr other ↦ ap (λ x. (from == a) && x) (ne_eqb to b other) ∙ and_right (from == a) false refl
  ]
  | inr other ↦ ap (λ x. x && (to == b)) (ne_eqb from a other)
])

-- the count is set to another one
pub put_counts : (old counts new : List ℕ) (from to n : ℕ) → from < MAX_PARTITIONS → counts ≡ old → to * MAX_PARTITIONS + from < length new → ((k : ℕ) → get_or new k 0 ≡ get_or counts k 0)
    → (a b : ℕ) → a < MAX_PARTITIONS → b < MAX_PARTITIONS → count_in (slice_set new (to * MAX_PARTITIONS + from) n) a b ≡ cond (a == from && b == to) n (count_in old a b)
put_counts old counts new from to n low is inside same a b a_low b_low = elim (cases_edge a b from to) [
  | inl e ↦ set_here new from to n a b inside e.0 e.1 ∙ sym (cond-true (a == from && b == to) n _ (ap₂ (λ x y. x && y) (eq-eqb a from e.0) (eq-eqb b to e.1)))
  | inr far ↦
      set_far new from to n a b low a_low far ∙ same (b * MAX_PARTITIONS + a) ∙ ap (λ (cs : List ℕ). count_in cs a b) is
      ∙ sym (cond-false (a == from && b == to) n _ (elim (cases_eq a from) [
        | inl s ↦ elim (cases_eq b to) [
          | inl t ↦ absurd (far s t)
          | inr other ↦ ap (λ x. (a == from) && x) (ne_eqb b to other) ∙ and_right (a == from) false refl
        ]
        | inr other ↦ ap (λ x. x && (b == to)) (ne_eqb a from other)
      ]))
]

-- the edge is counted once less
pub remove_counts : (old counts new : List ℕ) (from to was : ℕ) → from < MAX_PARTITIONS → counts ≡ old → to * MAX_PARTITIONS + from < length new → ((k : ℕ) → get_or new k 0 ≡ get_or counts k 0) → was ≡ get_or new (to * MAX_PARTITIONS + from) was
    → 0 < count_in old from to → (a b : ℕ) → a < MAX_PARTITIONS → b < MAX_PARTITIONS → count_in (slice_set new (to * MAX_PARTITIONS + from) (was - 1)) a b + is_edge from to a b ≡ count_in old a b
remove_counts old counts new from to was low is inside same at some a b a_low b_low =
    let first : was ≡ count_in old from to = get_or_read new (to * MAX_PARTITIONS + from) was inside at 0 ∙ same (to * MAX_PARTITIONS + from) ∙ ap (λ (cs : List ℕ). count_in cs from to) is in
    elim (cases_edge a b from to) [
      | inl e ↦
          let now : count_in (slice_set new (to * MAX_PARTITIONS + from) (was - 1)) a b ≡ was - 1 = set_here new from to (was - 1) a b inside e.0 e.1 in
          let once : count_in old from to ≡ count_in old a b = ap₂ (λ x y. count_in old x y) (sym e.0) (sym e.1) in
          omega (arith, now, first, once, some, edge_here from to a b e.0 e.1)
      | inr far ↦
          let now : count_in (slice_set new (to * MAX_PARTITIONS + from) (was - 1)) a b ≡ count_in old a b =
          set_far new from to (was - 1) a b low a_low far ∙ same (b * MAX_PARTITIONS + a) ∙ ap (λ (cs : List ℕ). count_in cs a b) is in
          omega (arith, now, edge_far from to a b far)
    ]

-- the rows still mark which edges are counted
pub set_marked : (counts new : List ℕ) (sources targets sources' targets' : List (List Bool)) (from to n : ℕ) (bit : Bool) → from < MAX_PARTITIONS → to * MAX_PARTITIONS + from < length new → ((k : ℕ) → get_or new k 0 ≡ get_or counts k 0)
    → bit ≡ ltb 0 n → IsMarked counts sources targets → IsWithBit to from bit sources sources' → IsWithBit from to bit targets targets' → IsMarked (slice_set new (to * MAX_PARTITIONS + from) n) sources' targets'
set_marked counts new sources targets sources' targets' from to n bit low inside same tells m s t =
    record {
      source_rows = s.rows;
      target_rows = t.rows;
      sources_are = λ a b a_low b_low. elim (cases_edge a b from to) [
        | inl e ↦ ap₂ (λ x y. is_set (row_at sources' y) x) e.0 e.1 ∙ s.here ∙ tells ∙ ap (ltb 0) (sym (set_here new from to n a b inside e.0 e.1))
        | inr far ↦ s.others b a (λ e f. far f e) ∙ m.sources_are a b a_low b_low ∙ ap (ltb 0) (sym (set_far new from to n a b low a_low far ∙ same (b * MAX_PARTITIONS + a)))
      ];
      targets_are = λ a b a_low b_low. elim (cases_edge a b from to) [
        | inl e ↦ ap₂ (λ x y. is_set (row_at targets' x) y) e.0 e.1 ∙ t.here ∙ tells ∙ ap (ltb 0) (sym (set_here new from to n a b inside e.0 e.1))
        | inr far ↦ t.others a b far ∙ m.targets_are a b a_low b_low ∙ ap (ltb 0) (sym (set_far new from to n a b low a_low far ∙ same (b * MAX_PARTITIONS + a)))
      ];
    }
