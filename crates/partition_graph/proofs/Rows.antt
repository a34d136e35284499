-- The edges of one id that are counted as those of another, one after another.
use Rattle.std.proofs.Common.{◌≡◌, ◌≢◌, ℕ, ◌+◌, ◌<◌, ◌≤◌, ◌^◌, ◌==◌, ◌&&◌, true, false, cond, ltb, List, arith, ap, ap₂, sym, ◌∙◌, refl, inl, inr, eq-eqb, ne_eqb, lt-ltb, le-ltb}
use Rattle.std.proofs.lemmas.Bool.{cases_eq, cases_lt, cond-true, cond-false, and_parts, and_right, ltb-true, ltb-false}
use Rattle.limits.specs.declared.TheConstants.{MAX_PARTITIONS}
use Rattle.partition_graph.specs.Joins.{with_targets, joined_counts}
use Rattle.partition_graph.specs.Marks.{count_in, is_counted}

-- the edges to ids before this one are added, and the others are as they were
pub record IsAdding (p q : ℕ) (old counts : ℕ → ℕ → ℕ) (reached : ℕ) : Type 0 where
  pub so_far : (a b : ℕ) → a < MAX_PARTITIONS → b < MAX_PARTITIONS
      → counts a b ≡ cond (ltb b reached) (with_targets p q old a b) (old a b)

-- the count of one edge is another one
pub record IsPut (x y n : ℕ) (old counts : ℕ → ℕ → ℕ) : Type 0 where
  pub here : counts x y ≡ n
  pub others : (a b : ℕ) → a < MAX_PARTITIONS → b < MAX_PARTITIONS → (a ≡ x → b ≡ y → ⊥) → counts a b ≡ old a b

-- so it is where a count is set
pub put-from : (x y n : ℕ) (old counts : ℕ → ℕ → ℕ) → x < MAX_PARTITIONS → y < MAX_PARTITIONS
    → ((a b : ℕ) → a < MAX_PARTITIONS → b < MAX_PARTITIONS → counts a b ≡ cond (a == x && b == y) n (old a b)) → IsPut x y n old counts
put-from x y n old counts x_low y_low is =
    record {
      here = is x y x_low y_low ∙ cond-true (x == x && y == y) n (old x y) (ap₂ (λ s t. s && t) (eq-eqb x x refl) (eq-eqb y y refl));
      others = λ a b a_low b_low other. is a b a_low b_low ∙ cond-false (a == x && b == y) n (old a b) (elim (cases_eq a x) [
        | inl at ↦ elim (cases_eq b y) [
          | inl too ↦ absurd (other at too)
          | inr far ↦ ap (λ t. (a == x) && t) (ne_eqb b y far) ∙ and_right (a == x) false refl
        ]
        | inr far ↦ ap (λ t. t && (b == y)) (ne_eqb a x far)
      ]);
    }

-- the same by targets
pub put-turned : (x y n : ℕ) (old counts : ℕ → ℕ → ℕ) → x < MAX_PARTITIONS → y < MAX_PARTITIONS
    → ((a b : ℕ) → a < MAX_PARTITIONS → b < MAX_PARTITIONS → counts a b ≡ cond (a == x && b == y) n (old a b)) → IsPut y x n (λ a b. old b a) (λ a b. counts b a)
put-turned x y n old counts x_low y_low is =
    let put : IsPut x y n old counts = put-from x y n old counts x_low y_low is in
    record { here = put.here; others = λ a b a_low b_low other. put.others b a b_low a_low (λ e f. other f e) }

-- the ids of an edge that is counted are ids
pub counted-low : (counts : List ℕ) (a b : ℕ) → is_counted counts a b ≡ true → (a < MAX_PARTITIONS) × (b < MAX_PARTITIONS)
counted-low counts a b e =
    let parts = and_parts (ltb a MAX_PARTITIONS) (ltb b MAX_PARTITIONS && ltb 0 (count_in counts a b)) e in
    (ltb-true a MAX_PARTITIONS parts.0, ltb-true b MAX_PARTITIONS (and_parts (ltb b MAX_PARTITIONS) (ltb 0 (count_in counts a b)) parts.1).0)

-- an edge that is not counted has the count 0
pub not-counted : (counts : List ℕ) (a b : ℕ) → a < MAX_PARTITIONS → b < MAX_PARTITIONS → is_counted counts a b ≡ false → count_in counts a b ≡ 0
not-counted counts a b a_low b_low e =
    let zero_count : ltb 0 (count_in counts a b) ≡ false =
    sym (ap (λ t. t && (ltb b MAX_PARTITIONS && ltb 0 (count_in counts a b))) (lt-ltb a MAX_PARTITIONS a_low) ∙ ap (λ t. t && ltb 0 (count_in counts a b)) (lt-ltb b MAX_PARTITIONS b_low)) ∙ e in
    let none : count_in counts a b ≤ 0 = ltb-false 0 (count_in counts a b) zero_count in
    omega (arith, none)

-- an edge that is counted has a count above 0
pub counted-some : (counts : List ℕ) (a b : ℕ) → is_counted counts a b ≡ true → 0 < count_in counts a b
counted-some counts a b e =
    let parts = and_parts (ltb a MAX_PARTITIONS) (ltb b MAX_PARTITIONS && ltb 0 (count_in counts a b)) e in
    ltb-true 0 (count_in counts a b) (and_parts (ltb b MAX_PARTITIONS) (ltb 0 (count_in counts a b)) parts.1).1

-- where q has no edge to an id, nothing is added
none-added : (p q : ℕ) (old : ℕ → ℕ → ℕ) (a b : ℕ) → old q b ≡ 0 → with_targets p q old a b ≡ old a b
none-added p q old a b none = elim (cases_eq a q) [
  | inl at ↦ cond-true (a == q) 0 _ (eq-eqb a q at) ∙ sym (ap (λ i. old i b) at ∙ none)
  | inr far ↦
      let more : cond {A = ℕ} (a == p) (old q b) 0 ≡ 0 = elim (a == p) as (λ t. cond {A = ℕ} t (old q b) 0 ≡ 0) [ true ↦ none | false ↦ refl ] in
      cond-false (a == q) 0 _ (ne_eqb a q far) ∙ omega (arith, more)
]

-- what is added at one id
added-here : (p q : ℕ) (old : ℕ → ℕ → ℕ) (b : ℕ) → p ≢ q → with_targets p q old p b ≡ old p b + old q b
added-here p q old b apart =
    cond-false (p == q) 0 _ (ne_eqb p q apart) ∙ ap (λ n. old p b + n) (cond-true (p == p) (old q b) 0 (eq-eqb p p refl))

-- what was counted of the next edge when the walk began
not-added : (p q : ℕ) (old counts : ℕ → ℕ → ℕ) (reached a b : ℕ) → IsAdding p q old counts reached → a < MAX_PARTITIONS → b < MAX_PARTITIONS → reached ≤ b → counts a b ≡ old a b
not-added p q old counts reached a b s a_low b_low past = s.so_far a b a_low b_low ∙ cond-false (ltb b reached) _ _ (le-ltb b reached past)

-- the next edge is added
pub adding-goes-on : (p q : ℕ) (old counts less more : ℕ → ℕ → ℕ) (reached to n : ℕ) → p ≢ q → p < MAX_PARTITIONS → q < MAX_PARTITIONS → to < MAX_PARTITIONS → reached ≤ to → IsAdding p q old counts reached
    → ((b : ℕ) → reached ≤ b → b < to → counts q b ≡ 0) → IsPut q to 0 counts less → n ≡ counts p to + counts q to → IsPut p to n less more → IsAdding p q old more (to + 1)
adding-goes-on p q old counts less more reached to n apart p_low q_low to_low past s none taken sum put = record { so_far = step }
  where
    was : (a b : ℕ) → a < MAX_PARTITIONS → b < MAX_PARTITIONS → reached ≤ b → counts a b ≡ old a b
    was a b a_low b_low later = not-added p q old counts reached a b s a_low b_low later

    at : (a : ℕ) → a < MAX_PARTITIONS → more a to ≡ with_targets p q old a to
    at a low = elim (cases_eq a p) [
      | inl is ↦ ap (λ i. more i to) is ∙ put.here ∙ sum ∙ ap₂ (λ m k. m + k) (was p to p_low to_low past) (was q to q_low to_low past) ∙ sym (added-here p q old to apart) ∙ ap (λ i. with_targets p q old i to) (sym is)
      | inr not_p ↦ put.others a to low to_low (λ e f. not_p e) ∙ elim (cases_eq a q) [
        | inl is ↦ ap (λ i. less i to) is ∙ taken.here ∙ sym (cond-true (a == q) 0 _ (eq-eqb a q is))
        | inr not_q ↦
            taken.others a to low to_low (λ e f. not_q e) ∙ was a to low to_low past
            ∙ sym (cond-false (a == q) 0 _ (ne_eqb a q not_q) ∙ (let zero_more : cond {A = ℕ} (a == p) (old q to) 0 ≡ 0 = cond-false (a == p) (old q to) 0 (ne_eqb a p not_p) in omega (arith, zero_more)))
      ]
    ]

    step : (a b : ℕ) → a < MAX_PARTITIONS → b < MAX_PARTITIONS → more a b ≡ cond (ltb b (to + 1)) (with_targets p q old a b) (old a b)
    step a b a_low b_low = elim (cases_eq b to) [
      | inl is ↦ ap (more a) is ∙ at a a_low ∙ ap (with_targets p q old a) (sym is) ∙ sym (cond-true (ltb b (to + 1)) _ _ (lt-ltb b (to + 1) (omega (arith, is))))
      | inr other ↦
          let same : more a b ≡ counts a b = put.others a b a_low b_low (λ e f. other f) ∙ taken.others a b a_low b_low (λ e f. other f) in
          elim (cases_lt b reached) [
            | inl done ↦ same ∙ s.so_far a b a_low b_low ∙ cond-true (ltb b reached) _ _ (lt-ltb b reached done) ∙ sym (cond-true (ltb b (to + 1)) _ _ (lt-ltb b (to + 1) (omega (arith, done, past))))
            | inr later ↦ elim (cases_lt b to) [
              | inl before ↦
                  same ∙ was a b a_low b_low later ∙ sym (none-added p q old a b (sym (was q b q_low b_low later) ∙ none b later before))
                  ∙ sym (cond-true (ltb b (to + 1)) _ _ (lt-ltb b (to + 1) (omega (arith, before))))
              | inr behind ↦ same ∙ was a b a_low b_low later ∙ sym (cond-false (ltb b (to + 1)) _ _ (le-ltb b (to + 1) (let far : b ≢ to = other in omega (arith, behind, far))))
            ]
          ]
    ]

-- where both steps fit, the first does
pub targets-fit : (p q : ℕ) (counts : ℕ → ℕ → ℕ) → p ≢ q → p < MAX_PARTITIONS → ((a b : ℕ) → a < MAX_PARTITIONS → b < MAX_PARTITIONS → joined_counts p q counts a b < 2 ^ 32)
    → (a b : ℕ) → a < MAX_PARTITIONS → b < MAX_PARTITIONS → with_targets p q counts a b < 2 ^ 32
targets-fit p q counts apart p_low few a b a_low b_low = elim (cases_eq b q) [
  | inl is ↦
      let all : joined_counts p q counts a p < 2 ^ 32 = few a p a_low p_low in
      let sum : joined_counts p q counts a p ≡ with_targets p q counts a p + with_targets p q counts a q =
      cond-false (p == q) 0 _ (ne_eqb p q apart) ∙ ap (λ n. with_targets p q counts a p + n) (cond-true (p == p) (with_targets p q counts a q) 0 (eq-eqb p p refl)) in
      let same : with_targets p q counts a b ≡ with_targets p q counts a q = ap (with_targets p q counts a) is in
      omega (arith, all, sum, same)
  | inr far ↦
      let all : joined_counts p q counts a b < 2 ^ 32 = few a b a_low b_low in
      let sum : joined_counts p q counts a b ≡ with_targets p q counts a b + cond {A = ℕ} (b == p) (with_targets p q counts a q) 0 = cond-false (b == q) 0 _ (ne_eqb b q far) in
      omega (arith, all, sum)
]
