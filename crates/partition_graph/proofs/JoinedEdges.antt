-- What is counted of cells once those of one id have another.
use Rattle.std.proofs.Common.{◌≡◌, ◌≢◌, ◌⊎◌, ℕ, ◌+◌, ◌<◌, ◌≤◌, ◌^◌, ◌==◌, ◌&&◌, Bool, true, false, cond, List, [], ◌∷◌, length, All, arith, ap, ap₂, sym, ◌∙◌, refl, inl, inr, eq-eqb, ne_eqb}
use Rattle.std.proofs.lemmas.Bool.{cases_Bool, cases_eq, cond-true, cond-false}
use Rattle.std.proofs.lemmas.List.Elements.{All-from_recursion, recursion_from_All}
use Rattle.std.specs.List.{AllByRecursion}
use Rattle.limits.specs.declared.TheConstants.{INITIAL, TERMINAL, FIRST_TYPE, MAX_EVENTS, MAX_PARTITIONS}
use Rattle.partition_model.specs.Coarsening.{onto}
use Rattle.partition_model.proofs.Merging.{onto_is, onto_other}
use Rattle.partition_graph.specs.declared.cells.Cell.{Cell}
use Rattle.partition_graph.specs.Cells.{joined_cells}
use Rattle.partition_graph.specs.Counts.{is_edge, edges_at, edges_along, before_next, cells_with, HasId}
use Rattle.partition_graph.specs.Joins.{with_sources, with_targets, joined_counts}
use Rattle.partition_graph.proofs.Around.{counts-few}
use Rattle.partition_graph.proofs.Joined.{length-joined_cells}

-- one edge, by its first id
first-joined : (p q x y a b : ℕ) → p ≢ q → is_edge (onto p q x) y a b ≡ with_targets p q (is_edge x y) a b
first-joined p q x y a b apart =
    elim (cases_eq x q) [
      | inl is ↦ ap (λ i. is_edge i y a b) (onto_is p q x is) ∙ from_q (cases_eq a q) (cases_eq a p)
          ∙ ap (λ i. with_targets p q (is_edge i y) a b) (sym is)
      | inr other ↦ ap (λ i. is_edge i y a b) (onto_other p q x other) ∙ from_other other (cases_eq a q)
    ]
  where
    no_edge : (u v c d : ℕ) → u ≢ c → is_edge u v c d ≡ 0
    no_edge u v c d n = ap (λ t. cond {A = ℕ} (t && v == d) 1 0) (ne_eqb u c n)

    from_q : (a ≡ q) ⊎ (a ≢ q) → (a ≡ p) ⊎ (a ≢ p) → is_edge p y a b ≡ with_targets p q (is_edge q y) a b
    from_q (inl at) at_p = no_edge p y a b (λ e. apart (e ∙ at)) ∙ sym (cond-true _ _ _ (eq-eqb a q at))
    from_q (inr not) (inl at) =
        let none : is_edge q y a b ≡ 0 = no_edge q y a b (λ e. not (sym e)) in
        let one : is_edge p y a b ≡ is_edge q y q b = ap (λ i. is_edge p y i b) at ∙ ap (λ t. cond {A = ℕ} (t && y == b) 1 0) (eq-eqb p p refl ∙ sym (eq-eqb q q refl)) in
        let more : cond {A = ℕ} (a == p) (is_edge q y q b) 0 ≡ is_edge q y q b = cond-true _ _ _ (eq-eqb a p at) in
        let sum : is_edge p y a b ≡ is_edge q y a b + cond {A = ℕ} (a == p) (is_edge q y q b) 0 = omega (arith, none, one, more) in
        sum ∙ sym (cond-false _ _ _ (ne_eqb a q not))
    from_q (inr not) (inr far) =
        let none : is_edge q y a b ≡ 0 = no_edge q y a b (λ e. not (sym e)) in
        let one : is_edge p y a b ≡ 0 = no_edge p y a b (λ e. far (sym e)) in
        let more : cond {A = ℕ} (a == p) (is_edge q y q b) 0 ≡ 0 = cond-false _ _ _ (ne_eqb a p far) in
        let sum : is_edge p y a b ≡ is_edge q y a b + cond {A = ℕ} (a == p) (is_edge q y q b) 0 = omega (arith, none, one, more) in
        sum ∙ sym (cond-false _ _ _ (ne_eqb a q not))

    from_other : x ≢ q → (a ≡ q) ⊎ (a ≢ q) → is_edge x y a b ≡ with_targets p q (is_edge x y) a b
    from_other other (inl at) = no_edge x y a b (λ e. other (e ∙ at)) ∙ sym (cond-true _ _ _ (eq-eqb a q at))
    from_other other (inr not) =
        let none : is_edge x y q b ≡ 0 = no_edge x y q b other in
        let more : cond {A = ℕ} (a == p) (is_edge x y q b) 0 ≡ 0 = elim (a == p) as (λ t. cond {A = ℕ} t (is_edge x y q b) 0 ≡ 0) [ true ↦ none | false ↦ refl ] in
        let sum : is_edge x y a b ≡ is_edge x y a b + cond {A = ℕ} (a == p) (is_edge x y q b) 0 = omega (arith, more) in
        sum ∙ sym (cond-false _ _ _ (ne_eqb a q not))

-- the same edge the other way round
turned : (x y a b : ℕ) → is_edge x y a b ≡ is_edge y x b a
turned x y a b = elim (x == a) as (λ t. cond {A = ℕ} (t && y == b) 1 0 ≡ cond {A = ℕ} (y == b && t) 1 0) [
  | true ↦ elim (y == b) as (λ t. cond {A = ℕ} t 1 0 ≡ cond {A = ℕ} (t && true) 1 0) [ true ↦ refl | false ↦ refl ]
  | false ↦ elim (y == b) as (λ t. cond {A = ℕ} false 1 0 ≡ cond {A = ℕ} (t && false) 1 0) [ true ↦ refl | false ↦ refl ]
]

-- counts that agree are joined alike, by what they lead from
targets-same : (p q : ℕ) (f g : ℕ → ℕ → ℕ) (a b : ℕ) → f a b ≡ g a b → f q b ≡ g q b → with_targets p q f a b ≡ with_targets p q g a b
targets-same p q f g a b e e' = ap₂ (λ m n. cond {A = ℕ} (a == q) 0 (m + cond {A = ℕ} (a == p) n 0)) e e'

-- so they are by what they lead to
pub sources-same : (p q : ℕ) (f g : ℕ → ℕ → ℕ) (a b : ℕ) → f a b ≡ g a b → f a q ≡ g a q → with_sources p q f a b ≡ with_sources p q g a b
sources-same p q f g a b e e' = ap₂ (λ m n. cond {A = ℕ} (b == q) 0 (m + cond {A = ℕ} (b == p) n 0)) e e'

joined-same : (p q : ℕ) (f g : ℕ → ℕ → ℕ) → q < MAX_PARTITIONS → ((a b : ℕ) → a < MAX_PARTITIONS → b < MAX_PARTITIONS → f a b ≡ g a b)
    → (a b : ℕ) → a < MAX_PARTITIONS → b < MAX_PARTITIONS → joined_counts p q f a b ≡ joined_counts p q g a b
joined-same p q f g low same a b a_low b_low =
    sources-same p q (with_targets p q f) (with_targets p q g) a b
    (targets-same p q f g a b (same a b a_low b_low) (same q b low b_low)) (targets-same p q f g a q (same a q a_low low) (same q q low low))

-- one edge, by both of its ids
edge-joined : (p q x y a b : ℕ) → p ≢ q → is_edge (onto p q x) (onto p q y) a b ≡ joined_counts p q (is_edge x y) a b
edge-joined p q x y a b apart =
    turned (onto p q x) (onto p q y) a b ∙ first-joined p q y (onto p q x) b a apart
    ∙ ap₂ (λ m n. cond {A = ℕ} (b == q) 0 (m + cond {A = ℕ} (b == p) n 0))
    (turned y (onto p q x) b a ∙ first-joined p q x y a b apart) (turned y (onto p q x) q a ∙ first-joined p q x y a q apart)

-- the sum of counts is joined as they are
sum-targets : (p q : ℕ) (f g : ℕ → ℕ → ℕ) (a b : ℕ) → with_targets p q (λ c d. f c d + g c d) a b ≡ with_targets p q f a b + with_targets p q g a b
sum-targets p q f g a b =
    elim (a == q) as (λ t. cond {A = ℕ} t 0 ((f a b + g a b) + cond {A = ℕ} (a == p) (f q b + g q b) 0)
    ≡ cond {A = ℕ} t 0 (f a b + cond {A = ℕ} (a == p) (f q b) 0) + cond {A = ℕ} t 0 (g a b + cond {A = ℕ} (a == p) (g q b) 0)) [
      | true ↦ refl
      | false ↦ elim (a == p) as (λ t. (f a b + g a b) + cond {A = ℕ} t (f q b + g q b) 0 ≡ (f a b + cond {A = ℕ} t (f q b) 0) + (g a b + cond {A = ℕ} t (g q b) 0)) [
        | true ↦ omega arith
        | false ↦ omega arith
      ]
    ]

sum-sources : (p q : ℕ) (f g : ℕ → ℕ → ℕ) (a b : ℕ) → with_sources p q (λ c d. f c d + g c d) a b ≡ with_sources p q f a b + with_sources p q g a b
sum-sources p q f g a b = sum-targets p q (λ c d. f d c) (λ c d. g d c) b a

sum-joined : (p q : ℕ) (f g : ℕ → ℕ → ℕ) (a b : ℕ) → joined_counts p q (λ c d. f c d + g c d) a b ≡ joined_counts p q f a b + joined_counts p q g a b
sum-joined p q f g a b =
    sources-same p q (with_targets p q (λ c d. f c d + g c d)) (λ c d. with_targets p q f c d + with_targets p q g c d) a b (sum-targets p q f g a b) (sum-targets p q f g a q)
    ∙ sum-sources p q (with_targets p q f) (with_targets p q g) a b

none-joined : (p q a b : ℕ) → joined_counts p q (λ c d. 0) a b ≡ 0
none-joined p q a b = let twice = sum-joined p q (λ c d. 0) (λ c d. 0) a b in omega (arith, twice)

-- the edges at one cell
at-joined : (p q before a b : ℕ) (c d : Cell) → p ≢ q → TERMINAL ≢ q → d.last ≡ c.last → d.id ≡ onto p q c.id
    → edges_at (onto p q before) d a b ≡ joined_counts p q (edges_at before c) a b
at-joined p q before a b c d apart end last id =
    ap₂ (λ (t : Bool) (i : ℕ). is_edge (onto p q before) i a b + cond {A = ℕ} t (is_edge i TERMINAL a b) 0) last id
    ∙ elim (cases_Bool c.last) [
      | inl t ↦ rw t (
          ap₂ (λ m n. m + n) (edge-joined p q before c.id a b apart)
          (ap (λ i. is_edge (onto p q c.id) i a b) (sym (onto_other p q TERMINAL end)) ∙ edge-joined p q c.id TERMINAL a b apart)
          ∙ sym (sum-joined p q (is_edge before c.id) (is_edge c.id TERMINAL) a b))
      | inr f ↦ rw f (
          ap₂ (λ m n. m + n) (edge-joined p q before c.id a b apart) (sym (none-joined p q a b)) ∙ sym (sum-joined p q (is_edge before c.id) (λ e g. 0) a b))
    ]

-- the edges along cells
edges-joined : (p q before a b : ℕ) (cs : List Cell) → p ≢ q → INITIAL ≢ q → TERMINAL ≢ q
    → edges_along (onto p q before) (joined_cells p q cs) a b ≡ joined_counts p q (edges_along before cs) a b
edges-joined p q before a b [] apart start end = sym (none-joined p q a b)
edges-joined p q before a b (c ∷ cs) apart start end =
    let d : Cell = record { typ = c.typ; last = c.last; id = onto p q c.id } in
    let here : edges_at (onto p q before) d a b ≡ joined_counts p q (edges_at before c) a b = at-joined p q before a b c d apart end refl refl in
    let next : before_next d ≡ onto p q (before_next c) =
    elim c.last as (λ t. cond t INITIAL (onto p q c.id) ≡ onto p q (cond t INITIAL c.id)) [ true ↦ sym (onto_other p q INITIAL start) | false ↦ refl ] in
    let more : edges_along (before_next d) (joined_cells p q cs) a b ≡ joined_counts p q (edges_along (before_next c) cs) a b =
    ap (λ i. edges_along i (joined_cells p q cs) a b) next ∙ edges-joined p q (before_next c) a b cs apart start end in
    ap₂ (λ m n. m + n) here more ∙ sym (sum-joined p q (edges_at before c) (edges_along (before_next c) cs) a b)

sum-sizes : (t u : Bool) (a b c d : ℕ) → cond {A = ℕ} t 0 (a + cond {A = ℕ} u c 0) + cond {A = ℕ} t 0 (b + cond {A = ℕ} u d 0) ≡ cond {A = ℕ} t 0 ((a + b) + cond {A = ℕ} u (c + d) 0)
sum-sizes true u a b c d = refl
sum-sizes false true a b c d = omega arith
sum-sizes false false a b c d = omega arith

as-edge : (x r : ℕ) → cond {A = ℕ} (x == r) 1 0 ≡ is_edge x 0 r 0
as-edge x r = elim (x == r) as (λ t. cond {A = ℕ} t 1 0 ≡ cond {A = ℕ} (t && true) 1 0) [ true ↦ refl | false ↦ refl ]

one-size : (p q r x : ℕ) → p ≢ q → cond {A = ℕ} (onto p q x == r) 1 0 ≡ cond {A = ℕ} (r == q) 0 (cond {A = ℕ} (x == r) 1 0 + cond {A = ℕ} (r == p) (cond {A = ℕ} (x == q) 1 0) 0)
one-size p q r x apart =
    as-edge (onto p q x) r ∙ first-joined p q x 0 r 0 apart ∙ ap₂ (λ m n. cond {A = ℕ} (r == q) 0 (m + cond {A = ℕ} (r == p) n 0)) (sym (as-edge x r)) (sym (as-edge x q))

-- how many cells each id has then
pub sizes-joined : (p q r : ℕ) (cs : List Cell) → p ≢ q → cells_with r (joined_cells p q cs) ≡ cond {A = ℕ} (r == q) 0 (cells_with r cs + cond {A = ℕ} (r == p) (cells_with q cs) 0)
sizes-joined p q r [] apart = elim (r == q) as (λ t. 0 ≡ cond {A = ℕ} t 0 (0 + cond {A = ℕ} (r == p) 0 0)) [
  | true ↦ refl
  | false ↦ elim (r == p) as (λ t. 0 ≡ 0 + cond {A = ℕ} t 0 0) [ true ↦ refl | false ↦ refl ]
]
sizes-joined p q r (c ∷ cs) apart =
    let more = sizes-joined p q r cs apart in
    let here : cond {A = ℕ} (onto p q c.id == r) 1 0 ≡ cond {A = ℕ} (r == q) 0 (cond {A = ℕ} (c.id == r) 1 0 + cond {A = ℕ} (r == p) (cond {A = ℕ} (c.id == q) 1 0) 0) = one-size p q r c.id apart in
    let sum = sum-sizes (r == q) (r == p) (cond {A = ℕ} (c.id == r) 1 0) (cells_with r cs) (cond {A = ℕ} (c.id == q) 1 0) (cells_with q cs) in
    ap₂ (λ m n. m + n) here more ∙ sum

-- two ids have at most all cells
pub two-sizes : (p q : ℕ) (cs : List Cell) → p ≢ q → cells_with p cs + cells_with q cs ≤ length cs
two-sizes p q [] apart = omega arith
two-sizes p q (c ∷ cs) apart =
    let more : cells_with p cs + cells_with q cs ≤ length cs = two-sizes p q cs apart in
    let one : cond {A = ℕ} (c.id == p) 1 0 + cond {A = ℕ} (c.id == q) 1 0 ≤ 1 = elim (cases_eq c.id p) [
      | inl is ↦
          let a : cond {A = ℕ} (c.id == p) 1 0 ≡ 1 = cond-true _ _ _ (eq-eqb c.id p is) in
          let b : cond {A = ℕ} (c.id == q) 1 0 ≡ 0 = cond-false _ _ _ (ne_eqb c.id q (λ e. apart (sym is ∙ e))) in
          omega (arith, a, b)
      | inr other ↦
          let a : cond {A = ℕ} (c.id == p) 1 0 ≡ 0 = cond-false _ _ _ (ne_eqb c.id p other) in
          elim (c.id == q) as (λ t. cond {A = ℕ} (c.id == p) 1 0 + cond {A = ℕ} t 1 0 ≤ 1) [ true ↦ omega (arith, a) | false ↦ omega (arith, a) ]
    ] in
    omega (arith, more, one)

joined-ids : (p q : ℕ) (cells : List Cell) → (FIRST_TYPE ≤ p) × (p < MAX_PARTITIONS) → AllByRecursion HasId cells → AllByRecursion HasId (joined_cells p q cells)
joined-ids p q [] to all = tt
joined-ids p q (c ∷ cs) to all = (elim (c.id == q) as (λ t. (FIRST_TYPE ≤ cond t p c.id) × (cond t p c.id < MAX_PARTITIONS)) [ true ↦ to | false ↦ all.0 ], joined-ids p q cs to all.1)

-- what is counted of joined cells is at most as many as cells
pub joined-few : (p q : ℕ) (cells : List Cell) (counts : ℕ → ℕ → ℕ) → p ≢ q → FIRST_TYPE ≤ p → FIRST_TYPE ≤ q → q < MAX_PARTITIONS → p < MAX_PARTITIONS → All HasId cells → length cells ≤ MAX_EVENTS
    → ((a b : ℕ) → a < MAX_PARTITIONS → b < MAX_PARTITIONS → counts a b ≡ edges_along INITIAL cells a b)
    → (a b : ℕ) → a < MAX_PARTITIONS → b < MAX_PARTITIONS → (joined_counts p q counts a b ≡ edges_along INITIAL (joined_cells p q cells) a b) × (joined_counts p q counts a b < 2 ^ 32)
joined-few p q cells counts apart p_two q_two q_low p_low ids few same a b a_low b_low =
    let start : INITIAL ≢ q = (λ e. absurd (omega (arith, e, q_two))) in
    let end : TERMINAL ≢ q = (λ e. absurd (omega (arith, e, q_two))) in
    let law : edges_along (onto p q INITIAL) (joined_cells p q cells) a b ≡ joined_counts p q (edges_along INITIAL cells) a b = edges-joined p q INITIAL a b cells apart start end in
    let first : edges_along (onto p q INITIAL) (joined_cells p q cells) a b ≡ edges_along INITIAL (joined_cells p q cells) a b = ap (λ i. edges_along i (joined_cells p q cells) a b) (onto_other p q INITIAL start) in
    let joined : joined_counts p q counts a b ≡ joined_counts p q (edges_along INITIAL cells) a b = joined-same p q counts (edges_along INITIAL cells) q_low same a b a_low b_low in
    let long : length (joined_cells p q cells) ≡ length cells = length-joined_cells p q cells in
    let most : edges_along INITIAL (joined_cells p q cells) a b ≤ MAX_EVENTS =
    counts-few (joined_cells p q cells) a b (All-from_recursion HasId (joined_cells p q cells) (joined-ids p q cells (p_two, p_low) (recursion_from_All HasId cells ids))) (omega (arith, long, few)) in
    (joined ∙ sym law ∙ first, omega (arith, joined, law, first, most))
