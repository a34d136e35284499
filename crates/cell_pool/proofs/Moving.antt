-- What a move of one cell leaves.
use Rattle.std.proofs.Common.{◌≡◌, ◌≢◌, ℕ, ◌+◌, ◌<◌, ◌≤◌, not, eqb, List, [], ◌∷◌, ◌++◌, length, get_or, set, take, drop, filter, All, Contains, sym, ap, ◌∙◌, subst, arith, inl, inr}
use Rattle.std.specs.List.{sum_by}
use Rattle.std.proofs.lemmas.Bool.{cases_eq}
use Rattle.std.proofs.lemmas.List.{get_or_default, get_or-set_same, get_or-set_other, length-set, length-append}
use Rattle.std.proofs.lemmas.List.Elements.{All-get_or, All-take, All-drop, All-weaker, All-append, All-push, All-filter, All-contains, Contains-push, Contains-append_left, Contains-append_right, Contains-append_cases}
use Rattle.std.proofs.lemmas.List.Sums.{sum_by-set}
use Rattle.cell_pool.specs.Tables.{row_at, without, StandsIn, HasCells, KeepsCells}
use Rattle.cell_pool.specs.Chains.{IsLink, IsChain, IsLinked, IsTable}
use Rattle.cell_pool.proofs.Linked.{prev_has, next_has, next_of_prev, prev_of_next, chain_split, chain_stays, chain_cut, chain_append, filter_one}
use Rattle.cell_pool.proofs.Listed.{rows_of, row_first, row_second, row_third, once_at, once_in, parts_are, free_before, free_behind, contains_cases}

module _ (next prev : List ℕ) (count lists : ℕ) (table : List (List ℕ)) (h : IsTable next prev count lists table) (cell from to : ℕ) (from_in : from < length table) (to_in : to < length table) (apart : from ≢ to)
    (stands : Contains (row_at table from) cell) where
  row : List ℕ
  row = row_at table from

  place : ℕ
  place = stands.0

  inside : place < length row
  unfolding row place
  inside = stands.1

  is_cell : get_or row place 0 ≡ cell
  unfolding row place
  is_cell = get_or_default row place 0 cell stands.1 ∙ stands.2

  from_low : from < lists
  from_low = omega (arith, h.linked.size)

  to_low : to < lists
  to_low = omega (arith, h.linked.size)

  unique : (list j : ℕ) → list < lists → j < length (row_at table list) → get_or (row_at table list) j 0 ≡ cell → (list ≡ from) × (j ≡ place)
  unfolding row place
  unique list j low below is = once_at next prev count lists table h.linked list from j place low from_low below inside (is ∙ sym is_cell)

  front : List ℕ
  front = take place row

  back : List ℕ
  back = drop (place + 1) row

  parts : row ≡ front ++ cell ∷ back
  unfolding front back
  parts = parts_are row place cell inside is_cell

  front_free : All (λ x. x ≢ cell) front
  unfolding row front
  front_free = free_before row place cell inside (λ j below is. (unique from j from_low below is).1)

  back_free : All (λ x. x ≢ cell) back
  unfolding row back
  back_free = free_behind row place cell inside (λ j below is. (unique from j from_low below is).1)

  others_free : (list : ℕ) → list < lists → list ≢ from → All (λ x. x ≢ cell) (row_at table list)
  others_free list low other k d below is = other (unique list k low below (get_or_default (row_at table list) k 0 d below ∙ is)).0

  cells_in_row : All (λ x. x < count) row
  unfolding row
  cells_in_row = h.linked.cells from from_low

  -- the cell that is moved is one of the cells
  pub cell_low : cell < count
  cell_low = subst (λ x. x < count) is_cell (All-get_or (λ x. x < count) row place 0 inside cells_in_row)

  front_low : All (λ x. x < count) front
  unfolding front
  front_low = All-take (λ x. x < count) place row cells_in_row

  back_low : All (λ x. x < count) back
  unfolding back
  back_low = All-drop (λ x. x < count) (place + 1) row cells_in_row

  halves : IsChain next prev (count + from) front cell × IsChain next prev cell back (count + from)
  unfolding row
  halves = chain_split next prev (count + from) front cell back (count + from) (subst (λ r. IsChain next prev (count + from) r (count + from)) parts (h.linked.chains from from_low))

  p : ℕ
  p = get_or prev cell 0

  q : ℕ
  q = get_or next cell 0

  nodes_from : (xs : List ℕ) → All (λ x. x < count) xs → All (λ x. x < count + lists) xs
  nodes_from xs low = All-weaker (λ x. x < count) (λ x. x < count + lists) (λ x small. omega arith) xs low

  -- the node before the cell is one of the nodes
  pub before_low : get_or prev cell 0 < count + lists
  before_low = prev_has next prev (λ x. x < count + lists) (count + from) front cell halves.0 (omega (arith, from_low)) (nodes_from front front_low)

  -- the node behind the cell is one of the nodes
  pub behind_low : get_or next cell 0 < count + lists
  behind_low = next_has next prev (λ x. x < count + lists) cell back (count + from) halves.1 (nodes_from back back_low) (omega (arith, from_low))

  next1 : List ℕ
  next1 = set next (get_or prev cell 0) (get_or next cell 0)

  prev1 : List ℕ
  prev1 = set prev (get_or next cell 0) (get_or prev cell 0)

  -- links between other nodes stay where the cell is taken out
  stays1 : (y z : ℕ) → y ≢ cell → z ≢ cell → IsLink next prev y z → IsLink next1 prev1 y z
  unfolding next1 prev1
  stays1 y z not_from not_to link = (
    get_or-set_other next (get_or prev cell 0) y (get_or next cell 0) 0 (λ e. not_to (sym link.0 ∙ ap (λ m. get_or next m 0) e ∙ next_of_prev next prev (count + from) front cell halves.0)) ∙ link.0,
    get_or-set_other prev (get_or next cell 0) z (get_or prev cell 0) 0 (λ e. not_from (sym link.1 ∙ ap (λ m. get_or prev m 0) e ∙ prev_of_next next prev cell back (count + from) halves.1)) ∙ link.1,
  )

  link1 : IsLink next1 prev1 (get_or prev cell 0) (get_or next cell 0)
  unfolding next1 prev1
  link1 = (
    get_or-set_same next (get_or prev cell 0) (get_or next cell 0) 0 (omega (arith, before_low, h.linked.next_size)),
    get_or-set_same prev (get_or next cell 0) (get_or prev cell 0) 0 (omega (arith, behind_low, h.linked.prev_size)),
  )

  head_other : (list : ℕ) → count + list ≢ cell
  head_other list e = (let no : ⊥ = omega (arith, cell_low, e) in no)

  -- the list from which the cell is taken out is a chain over its other cells
  chain_from : IsChain next1 prev1 (count + from) (front ++ back) (count + from)
  chain_from = chain_cut next prev next1 prev1 (λ x. x ≢ cell) (λ x. x ≢ cell) stays1 (count + from) front cell back (count + from) (head_other from) front_free front_free back_free back_free (head_other from) halves.0 halves.1 link1

  chain_other : (list : ℕ) → list < lists → list ≢ from → IsChain next1 prev1 (count + list) (row_at table list) (count + list)
  chain_other list low other =
      chain_stays next prev next1 prev1 (λ x. x ≢ cell) (λ x. x ≢ cell) stays1 (count + list) (row_at table list) (count + list) (head_other list) (others_free list low other) (others_free list low other) (head_other list) (h.linked.chains list low)

  t : ℕ
  t = get_or prev1 (count + to) 0

  not_from_to : to ≢ from
  not_from_to e = apart (sym e)

  chain_to : IsChain next1 prev1 (count + to) (row_at table to) (count + to)
  chain_to = chain_other to to_low not_from_to

  last_low : get_or prev1 (count + to) 0 < count + lists
  last_low = prev_has next1 prev1 (λ x. x < count + lists) (count + to) (row_at table to) (count + to) chain_to (omega (arith, to_low)) (nodes_from (row_at table to) (h.linked.cells to to_low))

  last_other : get_or prev1 (count + to) 0 ≢ cell
  last_other = prev_has next1 prev1 (λ x. x ≢ cell) (count + to) (row_at table to) (count + to) chain_to (head_other to) (others_free to to_low not_from_to)

  next2 : List ℕ
  next2 = set (set next1 (get_or prev1 (count + to) 0) cell) cell (count + to)

  prev2 : List ℕ
  prev2 = set (set prev1 cell (get_or prev1 (count + to) 0)) (count + to) cell

  -- the last node of the other list is one of the nodes
  pub end_low : get_or (set prev (get_or next cell 0) (get_or prev cell 0)) (count + to) 0 < count + lists
  unfolding prev1
  end_low = last_low

  size1 : length next1 ≡ count + lists
  unfolding next1
  size1 = length-set next (get_or prev cell 0) (get_or next cell 0) ∙ h.linked.next_size

  size1' : length prev1 ≡ count + lists
  unfolding prev1
  size1' = length-set prev (get_or next cell 0) (get_or prev cell 0) ∙ h.linked.prev_size

  -- links between other nodes stay where the cell is put behind the last of the other list
  stays2 : (y z : ℕ) → y ≢ cell → (z ≢ cell) × (z ≢ count + to) → IsLink next1 prev1 y z → IsLink next2 prev2 y z
  unfolding next2 prev2
  stays2 y z not_from not_to link = (
    get_or-set_other (set next1 (get_or prev1 (count + to) 0) cell) cell y (count + to) 0 not_from
        ∙ get_or-set_other next1 (get_or prev1 (count + to) 0) y cell 0
        (λ e. not_to.1 (sym link.0 ∙ ap (λ m. get_or next1 m 0) e ∙ next_of_prev next1 prev1 (count + to) (row_at table to) (count + to) chain_to))
        ∙ link.0,
    get_or-set_other (set prev1 cell (get_or prev1 (count + to) 0)) (count + to) z cell 0 not_to.1 ∙ get_or-set_other prev1 cell z (get_or prev1 (count + to) 0) 0 not_to.0 ∙ link.1,
  )

  link_last : IsLink next2 prev2 (get_or prev1 (count + to) 0) cell
  unfolding next2 prev2
  link_last = (
    get_or-set_other (set next1 (get_or prev1 (count + to) 0) cell) cell (get_or prev1 (count + to) 0) (count + to) 0 last_other
        ∙ get_or-set_same next1 (get_or prev1 (count + to) 0) cell 0 (omega (arith, last_low, size1)),
    get_or-set_other (set prev1 cell (get_or prev1 (count + to) 0)) (count + to) cell cell 0 (λ e. head_other to (sym e))
        ∙ get_or-set_same prev1 cell (get_or prev1 (count + to) 0) 0 (omega (arith, cell_low, size1')),
  )

  link_head : IsLink next2 prev2 cell (count + to)
  unfolding next2 prev2
  link_head = (
    get_or-set_same (set next1 (get_or prev1 (count + to) 0) cell) cell (count + to) 0 (omega (arith, cell_low, size1, length-set next1 (get_or prev1 (count + to) 0) cell)),
    get_or-set_same (set prev1 cell (get_or prev1 (count + to) 0)) (count + to) cell 0 (omega (arith, to_low, size1', length-set prev1 cell (get_or prev1 (count + to) 0))),
  )

  targets : (list : ℕ) → list < lists → All (λ x. x ≢ cell) (row_at table list) → All (λ x. (x ≢ cell) × (x ≢ count + to)) (row_at table list)
  targets list low free k d below = (free k d below, λ e. (let no : ⊥ = omega (arith, e, h.linked.cells list low k d below) in no))

  targets_of : (xs : List ℕ) → All (λ x. x ≢ cell) xs → All (λ x. x < count) xs → All (λ x. (x ≢ cell) × (x ≢ count + to)) xs
  targets_of xs free low k d below = (free k d below, λ e. (let no : ⊥ = omega (arith, e, low k d below) in no))

  left : List ℕ
  left = front ++ back

  left_free : All (λ x. x ≢ cell) left
  unfolding left
  left_free = All-append (λ x. x ≢ cell) front back front_free back_free

  left_low : All (λ x. x < count) left
  unfolding left
  left_low = All-append (λ x. x < count) front back front_low back_low

  left_is : without (row_at table from) cell ≡ left
  unfolding row left
  left_is = ap (λ r. filter (λ x. not (eqb x cell)) r) parts ∙ filter_one front cell back front_free back_free

  heads_apart : (list : ℕ) → list ≢ to → count + list ≢ count + to
  heads_apart list other e = other (omega (arith, e))

  chain_from2 : IsChain next2 prev2 (count + from) left (count + from)
  unfolding left
  chain_from2 =
      chain_stays next1 prev1 next2 prev2 (λ x. x ≢ cell) (λ x. (x ≢ cell) × (x ≢ count + to)) stays2 (count + from) left (count + from) (head_other from) left_free (targets_of left left_free left_low)
      (head_other from, heads_apart from apart) chain_from

  -- the other list with the cell behind its last is a chain
  chain_to2 : IsChain next2 prev2 (count + to) (row_at table to ++ cell ∷ []) (count + to)
  chain_to2 =
      chain_append next1 prev1 next2 prev2 (λ x. x ≢ cell) (λ x. (x ≢ cell) × (x ≢ count + to)) stays2 (count + to) (row_at table to) (count + to) cell [] (count + to) (head_other to)
      (others_free to to_low not_from_to) (targets to to_low (others_free to to_low not_from_to)) chain_to link_last link_head

  chain_other2 : (list : ℕ) → list < lists → list ≢ from → list ≢ to → IsChain next2 prev2 (count + list) (row_at table list) (count + list)
  chain_other2 list low not_from not_to =
      chain_stays next1 prev1 next2 prev2 (λ x. x ≢ cell) (λ x. (x ≢ cell) × (x ≢ count + to)) stays2 (count + list) (row_at table list) (count + list) (head_other list) (others_free list low not_from)
      (targets list low (others_free list low not_from)) (head_other list, heads_apart list not_to) (chain_other list low not_from)

  moved : List (List ℕ)
  moved = set (set table from left) to (row_at table to ++ cell ∷ [])

  linked : IsLinked next2 prev2 count lists moved
  unfolding next2 prev2 moved
  linked = record {
    next_size = length-set (set next1 (get_or prev1 (count + to) 0) cell) cell (count + to) ∙ length-set next1 (get_or prev1 (count + to) 0) cell ∙ size1;
    prev_size = length-set (set prev1 cell (get_or prev1 (count + to) 0)) (count + to) cell ∙ length-set prev1 cell (get_or prev1 (count + to) 0) ∙ size1';
    size = length-set (set table from left) to (row_at table to ++ cell ∷ []) ∙ length-set table from left ∙ h.linked.size;
    chains = rows_of (λ list r. list < lists → IsChain next2 prev2 (count + list) r (count + list)) table from to left (row_at table to ++ cell ∷ []) from_in to_in apart (λ _. chain_from2) (λ _. chain_to2)
        (λ list not_from not_to low. chain_other2 list low not_from not_to);
    cells = rows_of (λ list r. list < lists → All (λ x. x < count) r) table from to left (row_at table to ++ cell ∷ []) from_in to_in apart (λ _. left_low)
        (λ _. All-push (λ x. x < count) (row_at table to) cell (h.linked.cells to to_low) cell_low) (λ list not_from not_to low. h.linked.cells list low);
  }

  total : sum_by length moved ≤ count
  unfolding moved left row
  total =
      let one = sum_by-set length table from left [] from_in in
      let two = sum_by-set length (set table from left) to (row_at table to ++ cell ∷ []) [] (omega (arith, length-set table from left)) in
      let row_to : length (row_at (set table from left) to) ≡ length (row_at table to) = ap length (get_or-set_other table from to left [] not_from_to) in
      let long_row : length (row_at table from) ≡ length front + suc_length = ap length parts ∙ length-append front (cell ∷ back) in
      let long_left : length left ≡ length front + length back = length-append front back in
      let long_to : length (row_at table to ++ cell ∷ []) ≡ length (row_at table to) + 1 = length-append (row_at table to) (cell ∷ []) in
      omega (arith, one, two, row_to, long_row, long_left, long_to, h.total)
    where
      suc_length : ℕ
      suc_length = length (cell ∷ back)

  result : List (List ℕ)
  result = set (set table from (without (row_at table from) cell)) to (row_at table to ++ cell ∷ [])

  same : moved ≡ result
  unfolding moved result
  same = ap (λ l. set (set table from l) to (row_at table to ++ cell ∷ [])) (sym left_is)

  -- after the move the nodes hold the lists with the cell in its new one
  pub move_table : IsTable (set (set (set next (get_or prev cell 0) (get_or next cell 0)) (get_or (set prev (get_or next cell 0) (get_or prev cell 0)) (count + to) 0) cell) cell (count + to))
      (set (set (set prev (get_or next cell 0) (get_or prev cell 0)) cell (get_or (set prev (get_or next cell 0) (get_or prev cell 0)) (count + to) 0)) (count + to) cell) count lists
      (set (set table from (without (row_at table from) cell)) to (row_at table to ++ cell ∷ []))
  unfolding next1 prev1 next2 prev2 result
  move_table = subst (λ t. IsTable next2 prev2 count lists t) same (record { linked = linked; total = total; limit = h.limit })

  contains_left : (x : ℕ) → Contains row x → x ≢ cell → Contains left x
  unfolding left
  contains_left x has other = elim (Contains-append_cases front (cell ∷ back) x (subst (λ r. Contains r x) parts has)) [
    | inl early ↦ Contains-append_left front back x early
    | inr late ↦ elim (contains_cases cell back x late) [
      | inl same_cell ↦ absurd (other (sym same_cell))
      | inr behind ↦ Contains-append_right front back x behind
    ]
  ]

  moved_long : length moved ≡ length table
  unfolding moved
  moved_long = length-set (set table from left) to (row_at table to ++ cell ∷ []) ∙ length-set table from left

  -- each cell that stood in a list stands in one after the move
  each_moved : (x : ℕ) → StandsIn table x → StandsIn moved x
  unfolding moved row
  each_moved x has = elim (cases_eq x cell) [
    | inl is ↦ (
      to,
      omega (arith, moved_long),
      subst (λ r. Contains r x) (sym (row_second table from to left (row_at table to ++ cell ∷ []) to_in))
          (subst (λ m. Contains (row_at table to ++ cell ∷ []) m) (sym is) (Contains-push (row_at table to) cell)),
    )
    | inr other ↦ elim (cases_eq has.0 to) [
      | inl at_to ↦ (
        to,
        omega (arith, moved_long),
        subst (λ r. Contains r x) (sym (row_second table from to left (row_at table to ++ cell ∷ []) to_in))
            (Contains-append_left (row_at table to) (cell ∷ []) x (subst (λ l. Contains (row_at table l) x) at_to has.2)),
      )
      | inr not_to ↦ elim (cases_eq has.0 from) [
        | inl at_from ↦ (
          from,
          omega (arith, moved_long),
          subst (λ r. Contains r x) (sym (row_first table from to left (row_at table to ++ cell ∷ []) from_in apart))
              (contains_left x (subst (λ l. Contains (row_at table l) x) at_from has.2) other),
        )
        | inr not_from ↦ (
          has.0,
          omega (arith, moved_long, has.1),
          subst (λ r. Contains r x) (sym (row_third table from to left (row_at table to ++ cell ∷ []) has.0 not_from not_to)) has.2,
        )
      ]
    ]
  ]

  left_only : (n : ℕ) → All (λ x. x < n) (row_at table from) → All (λ x. x < n) left
  left_only n low = subst (λ r. All (λ x. x < n) r) left_is (All-filter (λ x. not (eqb x cell)) (λ x. x < n) (row_at table from) low)

  only_moved : (n : ℕ) → ((list : ℕ) → All (λ x. x < n) (row_at table list)) → (list : ℕ) → All (λ x. x < n) (row_at moved list)
  unfolding moved
  only_moved n low =
      rows_of (λ list r. All (λ x. x < n) r) table from to left (row_at table to ++ cell ∷ []) from_in to_in apart (left_only n (low from))
      (All-push (λ x. x < n) (row_at table to) cell (low to) (All-contains (λ x. x < n) (row_at table from) cell (low from) stands)) (λ list not_from not_to. low list)

  -- after the move each cell still stands once
  pub move_keeps : KeepsCells table (set (set table from (without (row_at table from) cell)) to (row_at table to ++ cell ∷ []))
  unfolding result
  move_keeps n had = subst (λ t. HasCells t n) same (record {
    each = λ x low. each_moved x (had.each x low);
    only = only_moved n had.only;
    once = once_in next2 prev2 count lists moved linked;
  })
