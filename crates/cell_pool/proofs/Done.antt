-- What each call of the lists leaves, by the values that its steps read and write.
use Rattle.std.proofs.Common.{◌≡◌, ◌≢◌, ℕ, ◌+◌, ◌-◌, ◌^◌, map, replicate, ◌<◌, ◌≤◌, List, [], ◌∷◌, ◌++◌, length, get_or, set, Some, None, cond, ltb, slice_get, Option, Contains, add-one, sym, ap, ◌∙◌, subst, arith}
use Rattle.std.specs.List.{range_with_len}
use Rattle.std.proofs.lemmas.List.{get_or_read, length-set}
use Rattle.std.proofs.lemmas.Option.{slice_get_within}
use Rattle.cell_pool.specs.Tables.{row_at, without, HasCells, KeepsCells}
use Rattle.cell_pool.specs.Chains.{IsTable, table_of, next_at_start, prev_at_start}
use Rattle.cell_pool.proofs.Linked.{first_is, next_is}
use Rattle.cell_pool.proofs.Listed.{table_is, row_in, low_at}
use Rattle.cell_pool.proofs.Moving.{cell_low, before_low, behind_low, end_low, move_table, move_keeps}
use Rattle.cell_pool.proofs.Starting.{made_table, made_cells}
use Rattle.cell_pool.proofs.Splicing.{first_low, last_low, linked_keeps, empty_spliced, splice_table}

-- the nodes hold these lists, which the cells of the lists before are
pub record IsDone (view : List (List ℕ)) (next prev : List ℕ) (count lists : ℕ) (wanted : List (List ℕ)) : Type 0 where
  pub table : IsTable next prev count lists (table_of next count lists)
  pub shows : table_of next count lists ≡ wanted
  pub keeps : KeepsCells view (table_of next count lists)

done_from : (view : List (List ℕ)) (next prev : List ℕ) (count lists : ℕ) (wanted : List (List ℕ)) → IsTable next prev count lists wanted → KeepsCells view wanted → IsDone view next prev count lists wanted
done_from view next prev count lists wanted h keeps =
    let same = table_is next prev count lists wanted h in
    record {
      table = subst (λ t. IsTable next prev count lists t) (sym same) h;
      shows = same;
      keeps = subst (λ t. KeepsCells view t) (sym same) keeps;
    }

module _ (view : List (List ℕ)) (next prev : List ℕ) (count lists : ℕ) (seen : table_of next count lists ≡ view) (h : IsTable next prev count lists (table_of next count lists)) where
  -- the lists that are seen lie in the nodes
  pub seen_table : IsTable next prev count lists view
  seen_table = subst (λ t. IsTable next prev count lists t) seen h

  -- the node behind a head is the first cell of its list, or none
  pub first_done : (list node : ℕ) (answer : Option ℕ) → list < length view → node ≡ get_or next (count + list) node → answer ≡ cond (ltb node count) (Some node) None → answer ≡ slice_get (row_at view list) 0
  first_done list node answer low is says =
      let low_list : list < lists = omega (arith, seen_table.linked.size) in
      let read : node ≡ get_or next (count + list) 0 = get_or_read next (count + list) node (omega (arith, low_list, seen_table.linked.next_size)) is 0 in
      says ∙ ap (λ m. cond (ltb m count) (Some m) None) read
      ∙ first_is next prev count (count + list) (row_at view list) (count + list) (seen_table.linked.chains list low_list) (seen_table.linked.cells list low_list) (omega arith)

  -- the node behind a cell is the next cell of its list, or none
  pub next_done : (cell node : ℕ) (answer : Option ℕ) → node ≡ get_or next cell node → answer ≡ cond (ltb node count) (Some node) None
      → (list place : ℕ) → slice_get (row_at view list) place ≡ Some cell → answer ≡ slice_get (row_at view list) (place + 1)
  next_done cell node answer is says list place stands =
      let inside = slice_get_within (row_at view list) place cell stands in
      let low_list : list < lists = omega (arith, row_in view list place inside, seen_table.linked.size) in
      let small : cell < count = low_at (row_at view list) count place cell stands (seen_table.linked.cells list low_list) in
      let read : node ≡ get_or next cell 0 = get_or_read next cell node (omega (arith, small, seen_table.linked.next_size)) is 0 in
      says ∙ ap (λ m. cond (ltb m count) (Some m) None) read
      ∙ next_is next prev count (count + list) (row_at view list) (count + list) (seen_table.linked.chains list low_list) (seen_table.linked.cells list low_list) (omega arith) place cell stands
      ∙ ap (λ k. slice_get (row_at view list) k) (sym (add-one place))

  module _ (cell from to : ℕ) (from_in : from < length view) (to_in : to < length view) (apart : from ≢ to) (stands : Contains (row_at view from) cell) (p q : ℕ) (is_p : p ≡ get_or prev cell p) (is_q : q ≡ get_or next cell q) where
    cell_node : cell < count + lists
    cell_node = omega (arith, cell_low next prev count lists view seen_table cell from to from_in to_in apart stands)

    before : p ≡ get_or prev cell 0
    before = get_or_read prev cell p (omega (arith, cell_node, seen_table.linked.prev_size)) is_p 0

    behind : q ≡ get_or next cell 0
    behind = get_or_read next cell q (omega (arith, cell_node, seen_table.linked.next_size)) is_q 0

    -- the node before a cell that is moved is one of the nodes
    pub before_in : p < length next
    before_in = omega (arith, before, before_low next prev count lists view seen_table cell from to from_in to_in apart stands, seen_table.linked.next_size)

    -- the node behind a cell that is moved is one of the nodes
    pub behind_in : q < length prev
    behind_in = omega (arith, behind, behind_low next prev count lists view seen_table cell from to from_in to_in apart stands, seen_table.linked.prev_size)

    module _ (next1 prev1 : List ℕ) (t : ℕ) (is_next1 : next1 ≡ set next p q) (is_prev1 : prev1 ≡ set prev q p) (is_t : t ≡ get_or prev1 (count + to) t) where
      prev1_is : prev1 ≡ set prev (get_or next cell 0) (get_or prev cell 0)
      prev1_is = is_prev1 ∙ ap (λ m. set prev q m) before ∙ ap (λ m. set prev m (get_or prev cell 0)) behind

      next1_is : next1 ≡ set next (get_or prev cell 0) (get_or next cell 0)
      next1_is = is_next1 ∙ ap (λ m. set next p m) behind ∙ ap (λ m. set next m (get_or next cell 0)) before

      to_node : count + to < length prev1
      to_node = omega (arith, ap length is_prev1, length-set prev q p, seen_table.linked.prev_size, seen_table.linked.size)

      long : length next1 ≡ length next
      long = ap length is_next1 ∙ length-set next p q

      end_is : t ≡ get_or (set prev (get_or next cell 0) (get_or prev cell 0)) (count + to) 0
      end_is = get_or_read prev1 (count + to) t to_node is_t 0 ∙ ap (λ l. get_or l (count + to) 0) prev1_is

      -- the last node of the list that takes the cell is one of the nodes
      pub end_in : t < length next1
      end_in = omega (arith, end_is, end_low next prev count lists view seen_table cell from to from_in to_in apart stands, seen_table.linked.next_size, long)

      -- the cell is taken out of its list and stands last in the other, and each cell stands once
      pub move_done : (next3 prev3 : List ℕ) → next3 ≡ set (set next1 t cell) cell (count + to) → prev3 ≡ set (set prev1 cell t) (count + to) cell
          → IsDone view next3 prev3 count lists (set (set view from (without (row_at view from) cell)) to (row_at view to ++ cell ∷ []))
      move_done next3 prev3 is_next is_prev =
          let next_is : next3 ≡ set (set (set next (get_or prev cell 0) (get_or next cell 0)) (get_or (set prev (get_or next cell 0) (get_or prev cell 0)) (count + to) 0) cell) cell (count + to) =
          is_next ∙ ap (λ l. set (set l t cell) cell (count + to)) next1_is ∙ ap (λ m. set (set (set next (get_or prev cell 0) (get_or next cell 0)) m cell) cell (count + to)) end_is in
          let prev_is : prev3 ≡ set (set (set prev (get_or next cell 0) (get_or prev cell 0)) cell (get_or (set prev (get_or next cell 0) (get_or prev cell 0)) (count + to) 0)) (count + to) cell =
          is_prev ∙ ap (λ l. set (set l cell t) (count + to) cell) prev1_is ∙ ap (λ m. set (set (set prev (get_or next cell 0) (get_or prev cell 0)) cell m) (count + to) cell) end_is in
          let wanted : List (List ℕ) = set (set view from (without (row_at view from) cell)) to (row_at view to ++ cell ∷ []) in
          done_from view next3 prev3 count lists wanted
          (subst (λ l. IsTable l prev3 count lists wanted) (sym next_is)
          (subst (λ l. IsTable (set (set (set next (get_or prev cell 0) (get_or next cell 0)) (get_or (set prev (get_or next cell 0) (get_or prev cell 0)) (count + to) 0) cell) cell (count + to)) l count lists wanted) (sym prev_is)
          (move_table next prev count lists view seen_table cell from to from_in to_in apart stands)))
          (move_keeps next prev count lists view seen_table cell from to from_in to_in apart stands)

  module _ (from to : ℕ) (from_in : from < length view) (to_in : to < length view) (apart : from ≢ to) (f : ℕ) (is_f : f ≡ get_or next (count + from) f) where
    from_low : from < lists
    from_low = omega (arith, seen_table.linked.size)

    to_low : to < lists
    to_low = omega (arith, seen_table.linked.size)

    head_is : f ≡ get_or next (count + from) 0
    head_is = get_or_read next (count + from) f (omega (arith, from_low, seen_table.linked.next_size)) is_f 0

    -- where the list that is emptied has no cell, nothing is to change
    pub splice_none : f ≡ count + from → view ≡ set (set view from []) to (row_at view to ++ row_at view from)
    splice_none is = sym (empty_spliced next prev count lists view seen_table from to from_in to_in apart (sym head_is ∙ is))

    -- the first node of the list that is emptied is one of the nodes
    pub first_in : f < length prev
    first_in = omega (arith, head_is, first_low next prev count lists view seen_table from to from_in to_in apart from from_low, seen_table.linked.prev_size)

    module _ (g t : ℕ) (is_g : g ≡ get_or prev (count + from) g) (is_t : t ≡ get_or prev (count + to) t) where
      last_is : g ≡ get_or prev (count + from) 0
      last_is = get_or_read prev (count + from) g (omega (arith, from_low, seen_table.linked.prev_size)) is_g 0

      last_to : t ≡ get_or prev (count + to) 0
      last_to = get_or_read prev (count + to) t (omega (arith, to_low, seen_table.linked.prev_size)) is_t 0

      -- the last node of the list that is emptied is one of the nodes
      pub last_in : g < length next
      last_in = omega (arith, last_is, last_low next prev count lists view seen_table from to from_in to_in apart from from_low, seen_table.linked.next_size)

      -- the last node of the list that takes the cells is one of the nodes
      pub last_to_in : t < length next
      last_to_in = omega (arith, last_to, last_low next prev count lists view seen_table from to from_in to_in apart to to_low, seen_table.linked.next_size)

      -- one list is empty, the other has its cells behind its own, and each cell stands once
      pub splice_done : (next3 prev3 : List ℕ) → f ≢ count + from → next3 ≡ set (set (set next t f) g (count + to)) (count + from) (count + from) → prev3 ≡ set (set (set prev f t) (count + to) g) (count + from) (count + from)
          → IsDone view next3 prev3 count lists (set (set view from []) to (row_at view to ++ row_at view from))
      splice_done next3 prev3 some is_next is_prev =
          let wanted : List (List ℕ) = set (set view from []) to (row_at view to ++ row_at view from) in
          let f0 : ℕ = get_or next (count + from) 0 in
          let g0 : ℕ = get_or prev (count + from) 0 in
          let t0 : ℕ = get_or prev (count + to) 0 in
          let next_is : next3 ≡ set (set (set next t0 f0) g0 (count + to)) (count + from) (count + from) =
          is_next ∙ ap (λ m. set (set (set next m f) g (count + to)) (count + from) (count + from)) last_to ∙ ap (λ m. set (set (set next t0 m) g (count + to)) (count + from) (count + from)) head_is
          ∙ ap (λ m. set (set (set next t0 f0) m (count + to)) (count + from) (count + from)) last_is in
          let prev_is : prev3 ≡ set (set (set prev f0 t0) (count + to) g0) (count + from) (count + from) =
          is_prev ∙ ap (λ m. set (set (set prev m t) (count + to) g) (count + from) (count + from)) head_is ∙ ap (λ m. set (set (set prev f0 m) (count + to) g) (count + from) (count + from)) last_to
          ∙ ap (λ m. set (set (set prev f0 t0) (count + to) m) (count + from) (count + from)) last_is in
          let table = splice_table next prev count lists view seen_table from to from_in to_in apart (λ e. some (head_is ∙ e)) in
          let here : IsTable next3 prev3 count lists wanted =
          subst (λ l. IsTable l prev3 count lists wanted) (sym next_is) (subst (λ l. IsTable (set (set (set next t0 f0) g0 (count + to)) (count + from) (count + from)) l count lists wanted) (sym prev_is) table) in
          done_from view next3 prev3 count lists wanted here (linked_keeps next prev count lists view seen_table from to from_in to_in apart next3 prev3 here)

-- the nodes that are made hold all cells in the first list and none in the others
pub made_done : (next prev : List ℕ) (count lists : ℕ) → 1 ≤ lists → count + lists < 2 ^ 32
    → next ≡ map (next_at_start count) (range_with_len 0 (count + lists)) → prev ≡ map (prev_at_start count) (range_with_len 0 (count + lists))
    → IsTable next prev count lists (table_of next count lists) × (table_of next count lists ≡ range_with_len 0 count ∷ replicate (lists - 1) []) × HasCells (table_of next count lists) count
made_done next prev count lists some limit next_is prev_is =
    let wanted : List (List ℕ) = range_with_len 0 count ∷ replicate (lists - 1) [] in
    let here : IsTable next prev count lists wanted =
    subst (λ l. IsTable l prev count lists wanted) (sym next_is)
    (subst (λ l. IsTable (map (next_at_start count) (range_with_len 0 (count + lists))) l count lists wanted) (sym prev_is) (made_table count lists some limit)) in
    let same = table_is next prev count lists wanted here in
    (subst (λ t. IsTable next prev count lists t) (sym same) here, same, subst (λ t. HasCells t count) (sym same) (made_cells count lists some limit))
