-- Lists that lie in chains: they are read back, and no cell stands at two places.
use Rattle.std.proofs.Common.{◌≡◌, ◌≢◌, ℕ, ◌+◌, ◌<◌, ◌≤◌, zero, suc, cond, ltb, List, [], ◌∷◌, ◌++◌, length, get_or, set, take, drop, Some, All, Contains, slice_get, refl, sym, ap, ◌∙◌, subst, arith, inl, inr, ◌⊎◌}
use Rattle.std.proofs.lemmas.Bool.{cases_eq, cases_lt, lt-ltb, le-ltb}
use Rattle.std.proofs.lemmas.Option.{slice_get_within, get_or_from_slice_get}
use Rattle.std.proofs.lemmas.List.{same_lists, get_or_default, get_or_past, get_or-set_same, get_or-set_other, get_or-take, get_or-drop, length-take, length-drop, length-set, take-append-drop, drop_more}
use Rattle.std.proofs.lemmas.List.FromFn.{length-map-range_with_len, get_or-map-range_with_len}
use Rattle.std.proofs.lemmas.List.Elements.{All-head, All-tail, All-get_or, All-from_get_or}
use Rattle.std.proofs.lemmas.List.Sums.{get_or-le-sum_by}
use Rattle.cell_pool.specs.Tables.{row_at}
use Rattle.cell_pool.specs.Chains.{IsChain, IsLinked, IsTable, cells_behind, table_of}
use Rattle.cell_pool.proofs.Linked.{prev_at}

-- the cells that are read behind a node are those of its chain
pub cells_behind_is : (next prev : List ℕ) (count a : ℕ) (xs : List ℕ) (b : ℕ) → IsChain next prev a xs b → All (λ x. x < count) xs → count ≤ b → (more : ℕ) → length xs ≤ more
    → cells_behind more count next a ≡ xs
cells_behind_is next prev count a [] b h all past zero few = refl
cells_behind_is next prev count a [] b h all past (suc more) few =
    ap (λ m. cond (ltb m count) (m ∷ cells_behind more count next m) []) h.0 ∙ ap (λ t. cond t (b ∷ cells_behind more count next b) []) (le-ltb b count past)
cells_behind_is next prev count a (x ∷ xs) b h all past zero few = absurd (omega arith)
cells_behind_is next prev count a (x ∷ xs) b h all past (suc more) few =
    ap (λ m. cond (ltb m count) (m ∷ cells_behind more count next m) []) h.0.0
    ∙ ap (λ t. cond t (x ∷ cells_behind more count next x) []) (lt-ltb x count (All-head (λ y. y < count) x xs all))
    ∙ ap (λ l. x ∷ l) (cells_behind_is next prev count x xs b h.1 (All-tail (λ y. y < count) x xs all) past more (omega arith))

-- the lists that are read are those that lie in the nodes
pub table_is : (next prev : List ℕ) (count lists : ℕ) (table : List (List ℕ)) → IsTable next prev count lists table → table_of next count lists ≡ table
table_is next prev count lists table h =
    let long = length-map-range_with_len (λ list. cells_behind count count next (count + list)) 0 lists in
    same_lists (table_of next count lists) table (long ∙ sym h.linked.size) (λ k d below.
    let within : k < lists = omega (arith, long) in
    let in_table : k < length table = omega (arith, h.linked.size) in
    let few : length (row_at table k) ≤ count = omega (arith, get_or-le-sum_by length table k [] in_table, h.total) in
    get_or-map-range_with_len (λ list. cells_behind count count next (count + list)) 0 lists k k d within (omega arith)
    ∙ cells_behind_is next prev count (count + k) (row_at table k) (count + k) (h.linked.chains k within) (h.linked.cells k within) (omega arith) count few
    ∙ get_or_default table k [] d in_table)

-- a row of a table that has a cell is one of its rows
pub row_in : (table : List (List ℕ)) (list place : ℕ) → place < length (row_at table list) → list < length table
row_in table list place inside = elim (cases_lt list (length table)) [
  | inl below ↦ below
  | inr past ↦ absurd (omega (arith, ap length (get_or_past table list [] past)))
]

-- a cell that stands in a list whose cells are below a bound is below it
pub low_at : (xs : List ℕ) (count place cell : ℕ) → slice_get xs place ≡ Some cell → All (λ x. x < count) xs → cell < count
low_at xs count place cell is all = subst (λ x. x < count) (get_or_from_slice_get xs place cell 0 is) (All-get_or (λ x. x < count) xs place 0 (slice_get_within xs place cell is) all)

-- what holds of two new rows and of the others holds of all
pub rows_of : (P : ℕ → List ℕ → Type 0) (table : List (List ℕ)) (from to : ℕ) (r s : List ℕ) → from < length table → to < length table → from ≢ to → P from r → P to s
    → ((list : ℕ) → list ≢ from → list ≢ to → P list (row_at table list)) → (list : ℕ) → P list (row_at (set (set table from r) to s) list)
rows_of P table from to r s from_in to_in apart has_from has_to others list = elim (cases_eq list to) [
  | inl same ↦
      let row : row_at (set (set table from r) to s) to ≡ s = get_or-set_same (set table from r) to s [] (omega (arith, length-set table from r)) in
      subst (λ l. P l (row_at (set (set table from r) to s) l)) (sym same) (subst (P to) (sym row) has_to)
  | inr not_to ↦ subst (P list) (sym (get_or-set_other (set table from r) to list s [] not_to)) (elim (cases_eq list from) [
    | inl same ↦
        let row : row_at (set table from r) from ≡ r = get_or-set_same table from r [] from_in in
        subst (λ l. P l (row_at (set table from r) l)) (sym same) (subst (P from) (sym row) has_from)
    | inr not_from ↦ subst (P list) (sym (get_or-set_other table from list r [] not_from)) (others list not_from not_to)
  ])
]

-- the second row that is written is the new one
pub row_second : (table : List (List ℕ)) (from to : ℕ) (r s : List ℕ) → to < length table → row_at (set (set table from r) to s) to ≡ s
row_second table from to r s to_in = get_or-set_same (set table from r) to s [] (omega (arith, length-set table from r))

-- the first row that is written is the new one
pub row_first : (table : List (List ℕ)) (from to : ℕ) (r s : List ℕ) → from < length table → from ≢ to → row_at (set (set table from r) to s) from ≡ r
row_first table from to r s from_in apart = get_or-set_other (set table from r) to from s [] apart ∙ get_or-set_same table from r [] from_in

-- a row that is not written stays
pub row_third : (table : List (List ℕ)) (from to : ℕ) (r s : List ℕ) (list : ℕ) → list ≢ from → list ≢ to → row_at (set (set table from r) to s) list ≡ row_at table list
row_third table from to r s list not_from not_to = get_or-set_other (set table from r) to list s [] not_to ∙ get_or-set_other table from list r [] not_from

-- two places with the same cell are one
pub once_at : (next prev : List ℕ) (count lists : ℕ) (table : List (List ℕ)) → IsLinked next prev count lists table → (list other place place' : ℕ) → list < lists → other < lists
    → place < length (row_at table list) → place' < length (row_at table other) → get_or (row_at table list) place 0 ≡ get_or (row_at table other) place' 0
    → (list ≡ other) × (place ≡ place')
once_at next prev count lists table h list other zero zero at at' inside inside' same =
    let p = prev_at next prev (count + list) (row_at table list) (count + list) (h.chains list at) zero inside in
    let p' = prev_at next prev (count + other) (row_at table other) (count + other) (h.chains other at') zero inside' in
    let e : count + list ≡ count + other = sym p ∙ ap (λ m. get_or prev m 0) same ∙ p' in
    (omega (arith, e), refl)
once_at next prev count lists table h list other zero (suc place') at at' inside inside' same =
    let p = prev_at next prev (count + list) (row_at table list) (count + list) (h.chains list at) zero inside in
    let p' = prev_at next prev (count + other) (row_at table other) (count + other) (h.chains other at') (suc place') inside' in
    let e : count + list ≡ get_or (row_at table other) place' 0 = sym p ∙ ap (λ m. get_or prev m 0) same ∙ p' in
    let small : get_or (row_at table other) place' 0 < count = All-get_or (λ y. y < count) (row_at table other) place' 0 (omega arith) (h.cells other at') in
    absurd (omega (arith, e, small))
once_at next prev count lists table h list other (suc place) zero at at' inside inside' same =
    let p = prev_at next prev (count + list) (row_at table list) (count + list) (h.chains list at) (suc place) inside in
    let p' = prev_at next prev (count + other) (row_at table other) (count + other) (h.chains other at') zero inside' in
    let e : get_or (row_at table list) place 0 ≡ count + other = sym p ∙ ap (λ m. get_or prev m 0) same ∙ p' in
    let small : get_or (row_at table list) place 0 < count = All-get_or (λ y. y < count) (row_at table list) place 0 (omega arith) (h.cells list at) in
    absurd (omega (arith, e, small))
once_at next prev count lists table h list other (suc place) (suc place') at at' inside inside' same =
    let p = prev_at next prev (count + list) (row_at table list) (count + list) (h.chains list at) (suc place) inside in
    let p' = prev_at next prev (count + other) (row_at table other) (count + other) (h.chains other at') (suc place') inside' in
    let e : get_or (row_at table list) place 0 ≡ get_or (row_at table other) place' 0 = sym p ∙ ap (λ m. get_or prev m 0) same ∙ p' in
    let before = once_at next prev count lists table h list other place place' at at' (omega arith) (omega arith) e in
    (before.0, ap suc before.1)

-- two places at which a cell is found are one
pub once_in : (next prev : List ℕ) (count lists : ℕ) (table : List (List ℕ)) → IsLinked next prev count lists table → (list other place place' cell : ℕ)
    → slice_get (row_at table list) place ≡ Some cell → slice_get (row_at table other) place' ≡ Some cell → (list ≡ other) × (place ≡ place')
once_in next prev count lists table h list other place place' cell is is' =
    let inside = slice_get_within (row_at table list) place cell is in
    let inside' = slice_get_within (row_at table other) place' cell is' in
    once_at next prev count lists table h list other place place' (omega (arith, row_in table list place inside, h.size)) (omega (arith, row_in table other place' inside', h.size)) inside inside'
    (get_or_from_slice_get (row_at table list) place cell 0 is ∙ sym (get_or_from_slice_get (row_at table other) place' cell 0 is'))

-- a list is what stands before a place, the cell there, and what stands behind it
pub parts_are : (xs : List ℕ) (k c : ℕ) → k < length xs → get_or xs k 0 ≡ c → xs ≡ take k xs ++ c ∷ drop (k + 1) xs
parts_are xs k c below is = sym (take-append-drop k xs) ∙ ap (λ l. take k xs ++ l) (drop_more xs k 0 below ∙ ap (λ m. m ∷ drop (k + 1) xs) is)

-- before the only place of a cell it does not stand
pub free_before : (xs : List ℕ) (k c : ℕ) → k < length xs → ((j : ℕ) → j < length xs → get_or xs j 0 ≡ c → j ≡ k) → All (λ x. x ≢ c) (take k xs)
free_before xs k c below only = All-from_get_or (λ x. x ≢ c) (take k xs) 0 (λ i inside e.
    let early : i < k = omega (arith, length-take k xs) in
    let at : i ≡ k = only i (omega arith) (sym (get_or-take k xs i 0 early) ∙ e) in
    (let no : ⊥ = omega arith in no))

-- behind the only place of a cell it does not stand
pub free_behind : (xs : List ℕ) (k c : ℕ) → k < length xs → ((j : ℕ) → j < length xs → get_or xs j 0 ≡ c → j ≡ k) → All (λ x. x ≢ c) (drop (k + 1) xs)
free_behind xs k c below only = All-from_get_or (λ x. x ≢ c) (drop (k + 1) xs) 0 (λ i inside e.
    let within : k + 1 + i < length xs = omega (arith, length-drop (k + 1) xs) in
    let at : k + 1 + i ≡ k = only (k + 1 + i) within (sym (get_or-drop (k + 1) xs i 0) ∙ e) in
    (let no : ⊥ = omega arith in no))

-- a list has a cell at its head or behind it
pub contains_cases : (c : ℕ) (ys : List ℕ) (x : ℕ) → Contains (c ∷ ys) x → (c ≡ x) ⊎ Contains ys x
contains_cases c ys x h = cases h.0 h.1 h.2
  where
    cases : (k : ℕ) → k < length (c ∷ ys) → get_or (c ∷ ys) k x ≡ x → (c ≡ x) ⊎ Contains ys x
    cases zero below is = inl is
    cases (suc k) below is = inr (k, omega arith, is)
