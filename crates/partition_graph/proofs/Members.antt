-- The cells of an id, where a cell is given another one.
use Rattle.std.proofs.Common.{◌≡◌, ◌≢◌, ℕ, zero, suc, ◌+◌, ◌<◌, ◌≤◌, ◌==◌, Bool, not, true≢false, true, cond, List, [], ◌∷◌, ◌++◌, length, get_or, set, Contains, arith, ap, sym, ◌∙◌, refl, subst, inl, inr, eq-eqb}
use Rattle.std.proofs.lemmas.Bool.{cases_eq}
use Rattle.std.proofs.lemmas.List.{length-set}
use Rattle.std.proofs.lemmas.List.Elements.{Contains-append_cases}
use Rattle.std.specs.List.{AllByRecursion}
use Rattle.limits.specs.declared.TheConstants.{MAX_EVENTS, MAX_PARTITIONS}
use Rattle.cell_pool.specs.Tables.{row_at, without, StandsIn, HasCells, KeepsCells}
use Rattle.cell_pool.proofs.Listed.{row_first, row_second, row_third}
use Rattle.invariants.proofs.Members.{Contains-filter}
use Rattle.partition_graph.specs.declared.cells.Cell.{Cell}
use Rattle.partition_graph.specs.Cells.{IsClosed}
use Rattle.partition_graph.specs.Counts.{cells_with}
use Rattle.partition_graph.specs.Members.{id_at, given, AreMembers, HasNone}

-- the id of a cell that is read
pub id_at-get : (cells : List Cell) (k : ℕ) (d : Cell) → k < length cells → id_at cells k ≡ (get_or cells k d).id
id_at-get [] k d l = absurd (omega (arith, l))
id_at-get (c ∷ cs) zero d l = refl
id_at-get (c ∷ cs) (suc k) d l = id_at-get cs k d (omega (arith, l))

-- no cell has an id that is not below a bound which all are below
pub none-above : (bound p : ℕ) (cells : List Cell) → bound ≤ p → AllByRecursion (λ (c : Cell). c.id < bound) cells → HasNone p cells
none-above bound p [] l all k b e = absurd (omega (arith, b))
none-above bound p (c ∷ cs) l all zero b e = let first : c.id < bound = all.0 in absurd (omega (arith, first, l, e))
none-above bound p (c ∷ cs) l all (suc k) b e = none-above bound p cs l all.1 k (omega (arith, b)) e

-- the cells once one of them is given an id
pub length-given : (id k : ℕ) (cells : List Cell) → length (given id k cells) ≡ length cells
length-given id k [] = refl
length-given id zero (c ∷ cs) = refl
length-given id (suc k) (c ∷ cs) = ap suc (length-given id k cs)

-- the cell at the place has the id
pub given-there : (id k : ℕ) (cells : List Cell) → k < length cells → id_at (given id k cells) k ≡ id
given-there id k [] l = absurd (omega (arith, l))
given-there id zero (c ∷ cs) l = refl
given-there id (suc k) (c ∷ cs) l = given-there id k cs (omega (arith, l))

-- and the others have their own
pub given-other : (id k j : ℕ) (cells : List Cell) → j ≢ k → id_at (given id k cells) j ≡ id_at cells j
given-other id k j [] n = refl
given-other id zero zero (c ∷ cs) n = absurd (n refl)
given-other id zero (suc j) (c ∷ cs) n = refl
given-other id (suc k) zero (c ∷ cs) n = refl
given-other id (suc k) (suc j) (c ∷ cs) n = given-other id k j cs (λ e. n (ap suc e))

-- so it is where the cell is written
pub set-given : (cells : List Cell) (k id : ℕ) (d : Cell)
    → set cells k (let c : Cell = record { typ = (get_or cells k d).typ; last = (get_or cells k d).last; id = id } in c) ≡ given id k cells
set-given [] k id d = refl
set-given (c ∷ cs) zero id d = refl
set-given (c ∷ cs) (suc k) id d = ap (λ (xs : List Cell). c ∷ xs) (set-given cs k id d)

-- the last cell is still the last of its trace
pub given-closed : (id k : ℕ) (ended : Bool) (cells : List Cell) → IsClosed ended cells → IsClosed ended (given id k cells)
given-closed id k ended [] closed = closed
given-closed id zero ended (c ∷ cs) closed = closed
given-closed id (suc k) ended (c ∷ cs) closed = given-closed id k c.last cs closed

-- what holds of each id, and of the new one, holds of each id then
pub given-all : (P : ℕ → Type 0) (id k : ℕ) (cells : List Cell) → P id → AllByRecursion (λ (c : Cell). P c.id) cells → AllByRecursion (λ (c : Cell). P c.id) (given id k cells)
given-all P id k [] new all = tt
given-all P id zero (c ∷ cs) new all = (new, all.1)
given-all P id (suc k) (c ∷ cs) new all = (all.0, given-all P id k cs new all.1)

-- one cell less has the old id, and one more the new one
pub given-sizes : (id k p : ℕ) (cells : List Cell) → k < length cells
    → cells_with p (given id k cells) + cond {A = ℕ} (id_at cells k == p) 1 0 ≡ cells_with p cells + cond {A = ℕ} (id == p) 1 0
given-sizes id k p [] l = absurd (omega (arith, l))
given-sizes id zero p (c ∷ cs) l = omega arith
given-sizes id (suc k) p (c ∷ cs) l =
    let more : cells_with p (given id k cs) + cond {A = ℕ} (id_at cs k == p) 1 0 ≡ cells_with p cs + cond {A = ℕ} (id == p) 1 0 = given-sizes id k p cs (omega (arith, l)) in
    omega (arith, more)

-- the id of a cell is that of one
pub some-cell : (k : ℕ) (cells : List Cell) → k < length cells → 0 < cells_with (id_at cells k) cells
some-cell k [] l = absurd (omega (arith, l))
some-cell zero (c ∷ cs) l =
    let one : cond {A = ℕ} (c.id == c.id) 1 0 ≡ 1 = ap (λ b. cond {A = ℕ} b 1 0) (eq-eqb c.id c.id refl) in
    omega (arith, one)
some-cell (suc k) (c ∷ cs) l = let more : 0 < cells_with (id_at cs k) cs = some-cell k cs (omega (arith, l)) in omega (arith, more)

-- ---- the places of the cells stand in the lists of their ids

-- the place of each cell stands in the list of its id
pub stands : (lists : List (List ℕ)) (cells : List Cell) → AreMembers lists cells → (k : ℕ) → k < length cells → Contains (row_at lists (id_at cells k)) k
stands lists cells m k l =
    let in_one : StandsIn lists k = m.held.each k l in
    subst (λ id. Contains (row_at lists id) k) (sym (m.owners in_one.0 k in_one.2)) in_one.2

-- what stands in a list is the place of a cell
pub listed-low : (lists : List (List ℕ)) (count : ℕ) → HasCells lists count → (id k : ℕ) → Contains (row_at lists id) k → k < count
listed-low lists count h id k has = subst (λ x. x < count) has.2 (h.only id has.0 k has.1)

-- what stands in a list without a cell stood there before
pub in-without : (xs : List ℕ) (x k : ℕ) → Contains (without xs x) k → Contains xs k × (k ≢ x)
in-without xs x k has =
    let kept : Contains xs k × (not (k == x) ≡ true) = (Contains-filter (λ y. not (y == x)) xs k).0 has in
    (kept.0, λ e. true≢false (sym kept.1 ∙ ap not (eq-eqb k x e)))

-- a place is moved to the list of the new id
pub passed-members : (lists lists' : List (List ℕ)) (cells : List Cell) (place p n : ℕ) → AreMembers lists cells → place < length cells → id_at cells place ≡ p → p ≢ n → n < MAX_PARTITIONS → p < MAX_PARTITIONS
    → lists' ≡ set (set lists p (without (row_at lists p) place)) n (row_at lists n ++ place ∷ []) → KeepsCells lists lists'
    → AreMembers lists' (given n place cells)
passed-members lists lists' cells place p n m inside from apart n_low p_low is keeps =
    let long : length (given n place cells) ≡ length cells = length-given n place cells in
    let few : length cells ≤ MAX_EVENTS = m.few in
    record {
      few = omega (arith, long, few);
      size = ap length is ∙ length-set (set lists p (without (row_at lists p) place)) n (row_at lists n ++ place ∷ []) ∙ length-set lists p (without (row_at lists p) place) ∙ m.size;
      held = subst (HasCells lists') (sym long) (keeps (length cells) m.held);
      owners = owner;
    }
  where
    n_in : n < length lists
    n_in = let size : length lists ≡ MAX_PARTITIONS = m.size in omega (arith, size, n_low)

    p_in : p < length lists
    p_in = let size : length lists ≡ MAX_PARTITIONS = m.size in omega (arith, size, p_low)

    stays : (id k : ℕ) → id ≢ n → k ≢ place → Contains (row_at lists id) k → id_at (given n place cells) k ≡ id
    stays id k not other has = given-other n place k cells other ∙ m.owners id k has

    single : (k j : ℕ) → j < 1 → get_or (place ∷ []) j k ≡ k → id_at (given n place cells) k ≡ n
    single k zero l e = subst (λ x. id_at (given n place cells) x ≡ n) e (given-there n place cells inside)
    single k (suc j) l e = absurd (omega (arith, l))

    one : (k : ℕ) → Contains (place ∷ []) k → id_at (given n place cells) k ≡ n
    one k has = single k has.0 has.1 has.2

    owner : (id k : ℕ) → Contains (row_at lists' id) k → id_at (given n place cells) k ≡ id
    owner id k has = elim (cases_eq id n) [
      | inl to ↦
          let row : row_at lists' n ≡ row_at lists n ++ place ∷ [] = ap (λ t. row_at t n) is ∙ row_second lists p n (without (row_at lists p) place) (row_at lists n ++ place ∷ []) n_in in
          elim (Contains-append_cases (row_at lists n) (place ∷ []) k (subst (λ r. Contains r k) (ap (λ i. row_at lists' i) to ∙ row) has)) [
            | inl before ↦
                let was : id_at cells k ≡ n = m.owners n k before in
                given-other n place k cells (λ e. apart (sym from ∙ ap (id_at cells) (sym e) ∙ was)) ∙ was ∙ sym to
            | inr last ↦ one k last ∙ sym to
          ]
      | inr not_to ↦ elim (cases_eq id p) [
        | inl here ↦
            let row : row_at lists' p ≡ without (row_at lists p) place = ap (λ t. row_at t p) is ∙ row_first lists p n (without (row_at lists p) place) (row_at lists n ++ place ∷ []) p_in apart in
            let had = in-without (row_at lists p) place k (subst (λ r. Contains r k) (ap (λ i. row_at lists' i) here ∙ row) has) in
            stays id k not_to had.1 (subst (λ i. Contains (row_at lists i) k) (sym here) had.0)
        | inr not_here ↦
            let row : row_at lists' id ≡ row_at lists id = ap (λ t. row_at t id) is ∙ row_third lists p n (without (row_at lists p) place) (row_at lists n ++ place ∷ []) id not_here not_to in
            let had : Contains (row_at lists id) k = subst (λ r. Contains r k) row has in
            stays id k not_to (λ e. not_here (sym (m.owners id k had) ∙ ap (id_at cells) e ∙ from)) had
      ]
    ]
