-- What a splice of two lists leaves.
use Rattle.std.proofs.Common.{◌≡◌, ◌≢◌, ℕ, ◌+◌, ◌<◌, ◌≤◌, List, [], ◌∷◌, ◌++◌, length, get_or, set, All, Contains, refl, sym, ap, ◌∙◌, subst, arith, inl, inr}
use Rattle.std.specs.List.{sum_by}
use Rattle.std.proofs.lemmas.Bool.{cases_eq}
use Rattle.std.proofs.lemmas.List.{append-nil, get_or-set_same, get_or-set_other, set-get_or, length-set, length-append}
use Rattle.std.proofs.lemmas.List.Elements.{All-head, All-tail, All-nil, All-weaker, All-append, Contains-append_left, Contains-append_right}
use Rattle.std.proofs.lemmas.List.Sums.{sum_by-set}
use Rattle.cell_pool.specs.Tables.{row_at, StandsIn, KeepsCells}
use Rattle.cell_pool.specs.Chains.{IsLink, IsChain, IsLinked, IsTable}
use Rattle.cell_pool.proofs.Linked.{prev_has, next_has, next_of_prev, chain_stays, chain_turned, chain_append}
use Rattle.cell_pool.proofs.Listed.{rows_of, row_second, row_third, once_in}

module _ (next prev : List ℕ) (count lists : ℕ) (table : List (List ℕ)) (h : IsTable next prev count lists table) (from to : ℕ) (from_in : from < length table) (to_in : to < length table) (apart : from ≢ to) where
  from_low : from < lists
  from_low = omega (arith, h.linked.size)

  to_low : to < lists
  to_low = omega (arith, h.linked.size)

  to_apart : to ≢ from
  to_apart e = apart (sym e)

  heads_apart : (list other : ℕ) → list ≢ other → count + list ≢ count + other
  heads_apart list other apart' e = apart' (omega (arith, e))

  nodes_from : (xs : List ℕ) → All (λ x. x < count) xs → All (λ x. x < count + lists) xs
  nodes_from xs low = All-weaker (λ x. x < count) (λ x. x < count + lists) (λ x small. omega arith) xs low

  no_head : (list : ℕ) (xs : List ℕ) → All (λ x. x < count) xs → All (λ x. x ≢ count + list) xs
  no_head list xs low = All-weaker (λ x. x < count) (λ x. x ≢ count + list) (λ x small e. (let no : ⊥ = omega (arith, small, e) in no)) xs low

  no_heads : (xs : List ℕ) → All (λ x. x < count) xs → All (λ x. (x ≢ count + from) × (x ≢ count + to)) xs
  no_heads xs low k d below = (no_head from xs low k d below, no_head to xs low k d below)

  -- the last node of each list is one of the nodes
  pub last_low : (list : ℕ) → list < lists → get_or prev (count + list) 0 < count + lists
  last_low list low = prev_has next prev (λ x. x < count + lists) (count + list) (row_at table list) (count + list) (h.linked.chains list low) (omega arith) (nodes_from (row_at table list) (h.linked.cells list low))

  -- the first node of each list is one of the nodes
  pub first_low : (list : ℕ) → list < lists → get_or next (count + list) 0 < count + lists
  first_low list low = next_has next prev (λ x. x < count + lists) (count + list) (row_at table list) (count + list) (h.linked.chains list low) (nodes_from (row_at table list) (h.linked.cells list low)) (omega arith)

  spliced_long : length (set (set table from []) to (row_at table to ++ row_at table from)) ≡ length table
  spliced_long = length-set (set table from []) to (row_at table to ++ row_at table from) ∙ length-set table from []

  -- each cell that stood in a list stands in one after the splice
  each_spliced : (x : ℕ) → StandsIn table x → StandsIn (set (set table from []) to (row_at table to ++ row_at table from)) x
  each_spliced x has = elim (cases_eq has.0 to) [
    | inl at_to ↦ (
      to,
      omega (arith, spliced_long),
      subst (λ r. Contains r x) (sym (row_second table from to [] (row_at table to ++ row_at table from) to_in))
          (Contains-append_left (row_at table to) (row_at table from) x (subst (λ l. Contains (row_at table l) x) at_to has.2)),
    )
    | inr not_to ↦ elim (cases_eq has.0 from) [
      | inl at_from ↦ (
        to,
        omega (arith, spliced_long),
        subst (λ r. Contains r x) (sym (row_second table from to [] (row_at table to ++ row_at table from) to_in))
            (Contains-append_right (row_at table to) (row_at table from) x (subst (λ l. Contains (row_at table l) x) at_from has.2)),
      )
      | inr not_from ↦ (
        has.0,
        omega (arith, spliced_long, has.1),
        subst (λ r. Contains r x) (sym (row_third table from to [] (row_at table to ++ row_at table from) has.0 not_from not_to)) has.2,
      )
    ]
  ]

  only_spliced : (n : ℕ) → ((list : ℕ) → All (λ x. x < n) (row_at table list)) → (list : ℕ) → All (λ x. x < n) (row_at (set (set table from []) to (row_at table to ++ row_at table from)) list)
  only_spliced n low =
      rows_of (λ list r. All (λ x. x < n) r) table from to [] (row_at table to ++ row_at table from) from_in to_in apart (All-nil (λ x. x < n))
      (All-append (λ x. x < n) (row_at table to) (row_at table from) (low to) (low from)) (λ list not_from not_to. low list)

  -- where the nodes hold the lists after the splice, each cell still stands once
  pub linked_keeps : (next' prev' : List ℕ) → IsTable next' prev' count lists (set (set table from []) to (row_at table to ++ row_at table from))
      → KeepsCells table (set (set table from []) to (row_at table to ++ row_at table from))
  linked_keeps next' prev' h' n had = record {
    each = λ x low. each_spliced x (had.each x low);
    only = only_spliced n had.only;
    once = once_in next' prev' count lists (set (set table from []) to (row_at table to ++ row_at table from)) h'.linked;
  }

  empty_row : (xs : List ℕ) → IsChain next prev (count + from) xs (count + from) → All (λ x. x < count) xs → get_or next (count + from) 0 ≡ count + from → xs ≡ []
  empty_row [] chain low is = refl
  empty_row (x ∷ xs) chain low is =
      let small = All-head (λ y. y < count) x xs low in
      absurd (omega (arith, chain.0.0, is, small))

  -- where the list that is emptied has no cell, the splice changes nothing
  pub empty_spliced : get_or next (count + from) 0 ≡ count + from → set (set table from []) to (row_at table to ++ row_at table from) ≡ table
  empty_spliced is =
      let nothing : row_at table from ≡ [] = empty_row (row_at table from) (h.linked.chains from from_low) (h.linked.cells from from_low) is in
      ap (λ r. set (set table from []) to (row_at table to ++ r)) nothing
      ∙ ap (λ r. set (set table from []) to r) (append-nil (row_at table to))
      ∙ ap (λ r. set (set table from r) to (row_at table to)) (sym nothing)
      ∙ ap (λ l. set l to (row_at table to)) (set-get_or table from [])
      ∙ set-get_or table to []

  -- a list that is not empty
  module _ (xs : List ℕ) (f : ℕ) (is_row : row_at table from ≡ f ∷ xs) where
    chain_from : IsLink next prev (count + from) f × IsChain next prev f xs (count + from)
    chain_from = subst (λ r. IsChain next prev (count + from) r (count + from)) is_row (h.linked.chains from from_low)

    chain_to : IsChain next prev (count + to) (row_at table to) (count + to)
    chain_to = h.linked.chains to to_low

    row_low : All (λ x. x < count) (f ∷ xs)
    row_low = subst (λ r. All (λ x. x < count) r) is_row (h.linked.cells from from_low)

    f_low : f < count
    f_low = All-head (λ x. x < count) f xs row_low

    rest_low : All (λ x. x < count) xs
    rest_low = All-tail (λ x. x < count) f xs row_low

    to_cells : All (λ x. x < count) (row_at table to)
    to_cells = h.linked.cells to to_low

    -- the last cell of the list that is emptied, and the last node of the other
    g_low : get_or prev (count + from) 0 < count
    g_low = prev_has next prev (λ x. x < count) f xs (count + from) chain_from.1 f_low rest_low

    g_next : get_or next (get_or prev (count + from) 0) 0 ≡ count + from
    g_next = next_of_prev next prev f xs (count + from) chain_from.1

    t_next : get_or next (get_or prev (count + to) 0) 0 ≡ count + to
    t_next = next_of_prev next prev (count + to) (row_at table to) (count + to) chain_to

    t_other : get_or prev (count + to) 0 ≢ count + from
    t_other = prev_has next prev (λ x. x ≢ count + from) (count + to) (row_at table to) (count + to) chain_to (heads_apart to from to_apart) (no_head from (row_at table to) to_cells)

    t_low : get_or prev (count + to) 0 < count + lists
    t_low = last_low to to_low

    next' : List ℕ
    next' = set (set (set next (get_or prev (count + to) 0) f) (get_or prev (count + from) 0) (count + to)) (count + from) (count + from)

    prev' : List ℕ
    prev' = set (set (set prev f (get_or prev (count + to) 0)) (count + to) (get_or prev (count + from) 0)) (count + from) (count + from)

    size1 : length (set next (get_or prev (count + to) 0) f) ≡ count + lists
    size1 = length-set next (get_or prev (count + to) 0) f ∙ h.linked.next_size

    size2 : length (set (set next (get_or prev (count + to) 0) f) (get_or prev (count + from) 0) (count + to)) ≡ count + lists
    size2 = length-set (set next (get_or prev (count + to) 0) f) (get_or prev (count + from) 0) (count + to) ∙ size1

    size1' : length (set prev f (get_or prev (count + to) 0)) ≡ count + lists
    size1' = length-set prev f (get_or prev (count + to) 0) ∙ h.linked.prev_size

    size2' : length (set (set prev f (get_or prev (count + to) 0)) (count + to) (get_or prev (count + from) 0)) ≡ count + lists
    size2' = length-set (set prev f (get_or prev (count + to) 0)) (count + to) (get_or prev (count + from) 0) ∙ size1'

    next_other : (y : ℕ) → y ≢ count + from → y ≢ get_or prev (count + from) 0 → y ≢ get_or prev (count + to) 0 → get_or next' y 0 ≡ get_or next y 0
    unfolding next'
    next_other y a b c =
        get_or-set_other (set (set next (get_or prev (count + to) 0) f) (get_or prev (count + from) 0) (count + to)) (count + from) y (count + from) 0 a
        ∙ get_or-set_other (set next (get_or prev (count + to) 0) f) (get_or prev (count + from) 0) y (count + to) 0 b
        ∙ get_or-set_other next (get_or prev (count + to) 0) y f 0 c

    prev_other : (z : ℕ) → z ≢ count + from → z ≢ count + to → z ≢ f → get_or prev' z 0 ≡ get_or prev z 0
    unfolding prev'
    prev_other z a b c =
        get_or-set_other (set (set prev f (get_or prev (count + to) 0)) (count + to) (get_or prev (count + from) 0)) (count + from) z (count + from) 0 a
        ∙ get_or-set_other (set prev f (get_or prev (count + to) 0)) (count + to) z (get_or prev (count + from) 0) 0 b
        ∙ get_or-set_other prev f z (get_or prev (count + to) 0) 0 c

    stays : (y z : ℕ) → y ≢ count + from → (z ≢ count + from) × (z ≢ count + to) → IsLink next prev y z → IsLink next' prev' y z
    stays y z not_from not_to link = (
      next_other y not_from (λ e. not_to.0 (sym link.0 ∙ ap (λ m. get_or next m 0) e ∙ g_next)) (λ e. not_to.1 (sym link.0 ∙ ap (λ m. get_or next m 0) e ∙ t_next)) ∙ link.0,
      prev_other z not_to.0 not_to.1 (λ e. not_from (sym link.1 ∙ ap (λ m. get_or prev m 0) e ∙ chain_from.0.1)) ∙ link.1,
    )

    f_not : (list : ℕ) → f ≢ count + list
    f_not list e = (let no : ⊥ = omega (arith, f_low, e) in no)

    g_not : (list : ℕ) → get_or prev (count + from) 0 ≢ count + list
    g_not list e = (let no : ⊥ = omega (arith, g_low, e) in no)

    link_end : IsLink next' prev' (get_or prev (count + to) 0) f
    unfolding next' prev'
    link_end = (
      get_or-set_other (set (set next (get_or prev (count + to) 0) f) (get_or prev (count + from) 0) (count + to)) (count + from) (get_or prev (count + to) 0) (count + from) 0 t_other
          ∙ get_or-set_other (set next (get_or prev (count + to) 0) f) (get_or prev (count + from) 0) (get_or prev (count + to) 0) (count + to) 0
          (λ e. heads_apart to from to_apart (sym t_next ∙ ap (λ m. get_or next m 0) e ∙ g_next))
          ∙ get_or-set_same next (get_or prev (count + to) 0) f 0 (omega (arith, t_low, h.linked.next_size)),
      get_or-set_other (set (set prev f (get_or prev (count + to) 0)) (count + to) (get_or prev (count + from) 0)) (count + from) f (count + from) 0 (f_not from)
          ∙ get_or-set_other (set prev f (get_or prev (count + to) 0)) (count + to) f (get_or prev (count + from) 0) 0 (f_not to)
          ∙ get_or-set_same prev f (get_or prev (count + to) 0) 0 (omega (arith, f_low, h.linked.prev_size)),
    )

    link_last : IsLink next' prev' (get_or prev (count + from) 0) (count + to)
    unfolding next' prev'
    link_last = (
      get_or-set_other (set (set next (get_or prev (count + to) 0) f) (get_or prev (count + from) 0) (count + to)) (count + from) (get_or prev (count + from) 0) (count + from) 0 (g_not from)
          ∙ get_or-set_same (set next (get_or prev (count + to) 0) f) (get_or prev (count + from) 0) (count + to) 0 (omega (arith, g_low, size1)),
      get_or-set_other (set (set prev f (get_or prev (count + to) 0)) (count + to) (get_or prev (count + from) 0)) (count + from) (count + to) (count + from) 0 (heads_apart to from to_apart)
          ∙ get_or-set_same (set prev f (get_or prev (count + to) 0)) (count + to) (get_or prev (count + from) 0) 0 (omega (arith, to_low, size1')),
    )

    link_empty : IsLink next' prev' (count + from) (count + from)
    unfolding next' prev'
    link_empty = (
      get_or-set_same (set (set next (get_or prev (count + to) 0) f) (get_or prev (count + from) 0) (count + to)) (count + from) (count + from) 0 (omega (arith, from_low, size2)),
      get_or-set_same (set (set prev f (get_or prev (count + to) 0)) (count + to) (get_or prev (count + from) 0)) (count + from) (count + from) 0 (omega (arith, from_low, size2')),
    )

    rest_turned : IsChain next' prev' f xs (count + to)
    rest_turned =
        chain_turned next prev next' prev' (λ x. x ≢ count + from) (λ x. (x ≢ count + from) × (x ≢ count + to)) stays f xs (count + from) (count + to) (f_not from) (no_head from xs rest_low) (no_heads xs rest_low)
        chain_from.1 link_last

    whole : IsChain next' prev' (count + to) (row_at table to ++ row_at table from) (count + to)
    whole =
        subst (λ r. IsChain next' prev' (count + to) (row_at table to ++ r) (count + to)) (sym is_row)
        (chain_append next prev next' prev' (λ x. x ≢ count + from) (λ x. (x ≢ count + from) × (x ≢ count + to)) stays (count + to) (row_at table to) (count + to) f xs (count + to) (heads_apart to from to_apart)
        (no_head from (row_at table to) to_cells) (no_heads (row_at table to) to_cells) chain_to link_end rest_turned)

    other : (list : ℕ) → list < lists → list ≢ from → list ≢ to → IsChain next' prev' (count + list) (row_at table list) (count + list)
    other list low not_from not_to =
        chain_stays next prev next' prev' (λ x. x ≢ count + from) (λ x. (x ≢ count + from) × (x ≢ count + to)) stays (count + list) (row_at table list) (count + list) (heads_apart list from not_from)
        (no_head from (row_at table list) (h.linked.cells list low)) (no_heads (row_at table list) (h.linked.cells list low)) (heads_apart list from not_from, heads_apart list to not_to) (h.linked.chains list low)

    linked : IsLinked next' prev' count lists (set (set table from []) to (row_at table to ++ row_at table from))
    unfolding next' prev'
    linked = record {
      next_size = length-set (set (set next (get_or prev (count + to) 0) f) (get_or prev (count + from) 0) (count + to)) (count + from) (count + from) ∙ size2;
      prev_size = length-set (set (set prev f (get_or prev (count + to) 0)) (count + to) (get_or prev (count + from) 0)) (count + from) (count + from) ∙ size2';
      size = spliced_long ∙ h.linked.size;
      chains = rows_of (λ list r. list < lists → IsChain next' prev' (count + list) r (count + list)) table from to [] (row_at table to ++ row_at table from) from_in to_in apart (λ _. link_empty) (λ _. whole)
          (λ list not_from not_to low. other list low not_from not_to);
      cells = rows_of (λ list r. list < lists → All (λ x. x < count) r) table from to [] (row_at table to ++ row_at table from) from_in to_in apart (λ _. All-nil (λ x. x < count))
          (λ _. All-append (λ x. x < count) (row_at table to) (row_at table from) to_cells (h.linked.cells from from_low)) (λ list not_from not_to low. h.linked.cells list low);
    }

    total : sum_by length (set (set table from []) to (row_at table to ++ row_at table from)) ≤ count
    total =
        let one = sum_by-set length table from [] [] from_in in
        let two = sum_by-set length (set table from []) to (row_at table to ++ row_at table from) [] (omega (arith, length-set table from [])) in
        let row_to : length (row_at (set table from []) to) ≡ length (row_at table to) = ap length (get_or-set_other table from to [] [] to_apart) in
        let long : length (row_at table to ++ row_at table from) ≡ length (row_at table to) + length (row_at table from) = length-append (row_at table to) (row_at table from) in
        omega (arith, one, two, row_to, long, h.total)

    spliced : IsTable next' prev' count lists (set (set table from []) to (row_at table to ++ row_at table from))
    spliced = record { linked = linked; total = total; limit = h.limit }

    -- after the splice of a list with a first cell the nodes hold the lists
    pub splice_row : IsTable (set (set (set next (get_or prev (count + to) 0) f) (get_or prev (count + from) 0) (count + to)) (count + from) (count + from))
        (set (set (set prev f (get_or prev (count + to) 0)) (count + to) (get_or prev (count + from) 0)) (count + from) (count + from)) count lists
        (set (set table from []) to (row_at table to ++ row_at table from))
    unfolding next' prev'
    splice_row = spliced

  -- by the first node of the list, which is no head
  nonempty : (r : List ℕ) → IsChain next prev (count + from) r (count + from) → row_at table from ≡ r → get_or next (count + from) 0 ≢ count + from
      → IsTable (set (set (set next (get_or prev (count + to) 0) (get_or next (count + from) 0)) (get_or prev (count + from) 0) (count + to)) (count + from) (count + from))
      (set (set (set prev (get_or next (count + from) 0) (get_or prev (count + to) 0)) (count + to) (get_or prev (count + from) 0)) (count + from) (count + from)) count lists
      (set (set table from []) to (row_at table to ++ row_at table from))
  nonempty [] chain is not_empty = absurd (not_empty chain.0)
  nonempty (x ∷ xs) chain is not_empty =
      subst (λ f. IsTable (set (set (set next (get_or prev (count + to) 0) f) (get_or prev (count + from) 0) (count + to)) (count + from) (count + from))
      (set (set (set prev f (get_or prev (count + to) 0)) (count + to) (get_or prev (count + from) 0)) (count + from) (count + from)) count lists
      (set (set table from []) to (row_at table to ++ row_at table from))) (sym chain.0.0) (splice_row xs x is)

  -- after the splice of a list that is not empty the nodes hold the lists
  pub splice_table : get_or next (count + from) 0 ≢ count + from
      → IsTable (set (set (set next (get_or prev (count + to) 0) (get_or next (count + from) 0)) (get_or prev (count + from) 0) (count + to)) (count + from) (count + from))
      (set (set (set prev (get_or next (count + from) 0) (get_or prev (count + to) 0)) (count + to) (get_or prev (count + from) 0)) (count + from) (count + from)) count lists
      (set (set table from []) to (row_at table to ++ row_at table from))
  splice_table not_empty = nonempty (row_at table from) (h.linked.chains from from_low) refl not_empty
