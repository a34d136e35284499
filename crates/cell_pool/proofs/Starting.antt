-- The lists as they are made: all cells in the first, ascending.
use Rattle.std.proofs.Common.{◌≡◌, ℕ, ◌+◌, ◌-◌, ◌*◌, ◌^◌, ◌<◌, ◌≤◌, zero, suc, cond, eqb, leb, List, [], ◌∷◌, length, map, get_or, replicate, All, refl, sym, ap, ◌∙◌, subst, arith, inl, inr}
use Rattle.std.specs.List.{range_with_len, sum_by}
use Rattle.std.proofs.lemmas.Bool.{cases_lt, lt-ltb, le-ltb, le-leb, lt-leb, eq-eqb, ne_eqb}
use Rattle.std.proofs.lemmas.List.{get_or-replicate, get_or_past, length-replicate}
use Rattle.std.proofs.lemmas.List.Elements.{All-nil}
use Rattle.std.proofs.lemmas.List.Folds.{sum_by-replicate}
use Rattle.std.proofs.lemmas.List.Sums.{sum_by-cons}
use Rattle.std.proofs.lemmas.List.FromFn.{length-range_with_len, get_or-range_with_len, length-map-range_with_len, get_or-map-range_with_len}
use Rattle.cell_pool.specs.Tables.{row_at, HasCells}
use Rattle.cell_pool.specs.Chains.{IsLink, IsChain, IsLinked, IsTable, next_at_start, prev_at_start}
use Rattle.cell_pool.proofs.Listed.{once_in}

module _ (count lists : ℕ) (some : 1 ≤ lists) (limit : count + lists < 2 ^ 32) where
  next : List ℕ
  next = map (next_at_start count) (range_with_len 0 (count + lists))

  prev : List ℕ
  prev = map (prev_at_start count) (range_with_len 0 (count + lists))

  next_here : (i : ℕ) → i < count + lists → get_or next i 0 ≡ next_at_start count i
  unfolding next
  next_here i low = get_or-map-range_with_len (next_at_start count) 0 (count + lists) i i 0 low (omega arith)

  prev_here : (i : ℕ) → i < count + lists → get_or prev i 0 ≡ prev_at_start count i
  unfolding prev
  prev_here i low = get_or-map-range_with_len (prev_at_start count) 0 (count + lists) i i 0 low (omega arith)

  next_cell : (i : ℕ) → i < count → next_at_start count i ≡ i + 1
  next_cell i low = ap (λ t. cond t (i + 1) (cond (eqb i count) 0 i)) (lt-ltb i count low)

  next_first : next_at_start count count ≡ 0
  next_first = ap (λ t. cond t (count + 1) (cond (eqb count count) 0 count)) (le-ltb count count (omega arith)) ∙ ap (λ t. cond t 0 count) (eq-eqb count count refl)

  next_head : (i : ℕ) → count < i → next_at_start count i ≡ i
  next_head i high = ap (λ t. cond t (i + 1) (cond (eqb i count) 0 i)) (le-ltb i count (omega arith)) ∙ ap (λ t. cond t 0 i) (ne_eqb i count (λ e. (let no : ⊥ = omega (arith, high, e) in no)))

  prev_cell : (i : ℕ) → i < count → prev_at_start count (i + 1) ≡ i
  prev_cell i low =
      ap (λ t. cond t count (cond (leb (i + 1) count) (i + 1 - 1) (i + 1))) (ne_eqb (i + 1) 0 (λ e. (let no : ⊥ = omega (arith, e) in no)))
      ∙ ap (λ t. cond t (i + 1 - 1) (i + 1)) (le-leb (i + 1) count (omega arith)) ∙ (let back : i + 1 - 1 ≡ i = omega arith in back)

  prev_first : prev_at_start count 0 ≡ count
  prev_first = ap (λ t. cond t count (cond (leb 0 count) (0 - 1) 0)) (eq-eqb 0 0 refl)

  prev_head : (i : ℕ) → count < i → prev_at_start count i ≡ i
  prev_head i high =
      ap (λ t. cond t count (cond (leb i count) (i - 1) i)) (ne_eqb i 0 (λ e. (let no : ⊥ = omega (arith, high, e) in no)))
      ∙ ap (λ t. cond t (i - 1) i) (lt-leb i count high)

  run : (k j a : ℕ) → k + j ≡ count → IsLink next prev a k → IsChain next prev a (range_with_len k j) count
  run k zero a ends link =
      let last : k ≡ count = omega arith in
      subst (λ m. IsLink next prev a m) last link
  run k (suc j) a ends link =
      let low : k < count = omega arith in
      (link, run (k + 1) j k (omega arith) (next_here k (omega arith) ∙ next_cell k low, prev_here (k + 1) (omega arith) ∙ prev_cell k low))

  first_chain : IsChain next prev count (range_with_len 0 count) count
  first_chain = run 0 count count (omega arith) (next_here count (omega arith) ∙ next_first, prev_here 0 (omega arith) ∙ prev_first)

  head_link : (i : ℕ) → count < i → i < count + lists → IsLink next prev i i
  head_link i high low = (next_here i low ∙ next_head i high, prev_here i low ∙ prev_head i high)

  table : List (List ℕ)
  table = range_with_len 0 count ∷ replicate (lists - 1) []

  later_row : (list : ℕ) → row_at table (suc list) ≡ []
  unfolding table
  later_row list = elim (cases_lt list (lists - 1)) [
    | inl below ↦ get_or-replicate (lists - 1) list [] [] below
    | inr past ↦ get_or_past (replicate (lists - 1) []) list [] (omega (arith, length-replicate {A = List ℕ} (lists - 1) []))
  ]

  row_chain : (list : ℕ) → list < lists → IsChain next prev (count + list) (row_at table list) (count + list)
  unfolding table
  row_chain zero low = let same : count ≡ count + 0 = omega arith in subst (λ m. IsChain next prev m (range_with_len 0 count) m) same first_chain
  row_chain (suc list) low = subst (λ r. IsChain next prev (count + suc list) r (count + suc list)) (sym (later_row list)) (head_link (count + suc list) (omega arith) (omega arith))

  row_cells : (list : ℕ) → All (λ x. x < count) (row_at table list)
  unfolding table
  row_cells zero k d below =
      let low : k < count = omega (arith, length-range_with_len 0 count) in
      omega (arith, get_or-range_with_len 0 count k d low)
  row_cells (suc list) k d below = subst (λ r. All (λ x. x < count) r) (sym (later_row list)) (All-nil (λ x. x < count)) k d below

  linked : IsLinked next prev count lists table
  unfolding next prev table
  linked = record {
    next_size = length-map-range_with_len (next_at_start count) 0 (count + lists);
    prev_size = length-map-range_with_len (prev_at_start count) 0 (count + lists);
    size = (let long : suc (length (replicate {A = List ℕ} (lists - 1) [])) ≡ lists = omega (arith, length-replicate {A = List ℕ} (lists - 1) []) in long);
    chains = row_chain;
    cells = λ list low. row_cells list;
  }

  total : sum_by length table ≤ count
  unfolding table
  total =
      let first = sum_by-cons length (range_with_len 0 count) (replicate (lists - 1) []) in
      let others : sum_by length (replicate {A = List ℕ} (lists - 1) []) ≡ (lists - 1) * 0 = sum_by-replicate length (lists - 1) [] in
      let nothing : (lists - 1) * 0 ≡ 0 = omega arith in
      omega (arith, first, others, nothing, length-range_with_len 0 count)

  -- the nodes that are made hold all cells in the first list and none in the others
  pub made_table : IsTable (map (next_at_start count) (range_with_len 0 (count + lists))) (map (prev_at_start count) (range_with_len 0 (count + lists))) count lists
      (range_with_len 0 count ∷ replicate (lists - 1) [])
  unfolding next prev table
  made_table = record { linked = linked; total = total; limit = limit }

  -- each cell stands once in the lists that are made
  pub made_cells : HasCells (range_with_len 0 count ∷ replicate (lists - 1) []) count
  unfolding table
  made_cells = record {
    each = λ x low. (0, omega arith, (x, omega (arith, length-range_with_len 0 count), get_or-range_with_len 0 count x x low ∙ (let same : 0 + x ≡ x = omega arith in same)));
    only = row_cells;
    once = once_in next prev count lists table linked;
  }
