-- The edges to a cell and from it, among all edges along cells.
use Rattle.std.proofs.Common.{◌≡◌, ℕ, zero, suc, ◌+◌, ◌<◌, ◌≤◌, ◌==◌, Bool, true, false, true≢false, cond, List, [], ◌∷◌, length, drop, All, arith, ap, sym, ◌∙◌, refl, subst, inl, inr, get_or, add-one, ap₂, ◌^◌, ◌&&◌, eq-eqb}
use Rattle.std.proofs.lemmas.Bool.{cases_Bool}
use Rattle.std.proofs.lemmas.List.Elements.{recursion_from_All}
use Rattle.std.specs.List.{AllByRecursion}
use Rattle.limits.specs.declared.TheConstants.{INITIAL, TERMINAL, FIRST_TYPE, MAX_EVENTS, MAX_PARTITIONS}
use Rattle.partition_graph.specs.declared.cells.Cell.{Cell}
use Rattle.partition_graph.specs.declared.tables.Tables.{Tables}
use Rattle.partition_graph.specs.Cells.{id_behind, first_id, IsClosed}
use Rattle.partition_graph.specs.Counts.{is_edge, edges_at, edges_along, edges_around, before_next, id_before, cells_with, HasId}
use Rattle.partition_graph.specs.Members.{id_at, given}
use Rattle.partition_graph.specs.Marks.{count_in}
use Rattle.partition_graph.specs.Tables.{size_at, count_at, HasCountsBut, HasCountsOf}
use Rattle.partition_graph.proofs.CellTraces.{cells_with-le}
use Rattle.partition_graph.proofs.Edges.{edges_along-le}
use Rattle.partition_graph.proofs.Members.{given-closed, given-sizes, given-there, length-given}
use Rattle.partition_graph.proofs.WordCells.{all_weaker}

-- the edges along cells but the one to the first of them
abbrev edges_behind : List Cell → ℕ → ℕ → ℕ
edges_behind [] a b = 0
edges_behind (c ∷ cs) a b = cond {A = ℕ} c.last (is_edge c.id TERMINAL a b) 0 + edges_along (before_next c) cs a b

-- the edges along cells but those to the cell at a place and from it
abbrev edges_apart : ℕ → List Cell → ℕ → ℕ → ℕ → ℕ
edges_apart before [] k a b = 0
edges_apart before (c ∷ cs) zero a b = cond {A = ℕ} c.last (edges_along INITIAL cs a b) (edges_behind cs a b)
edges_apart before (c ∷ cs) (suc k) a b = edges_at before c a b + edges_apart (before_next c) cs k a b

to_first : (x : ℕ) (cs : List Cell) (a b : ℕ) → IsClosed false cs → edges_along x cs a b ≡ edges_behind cs a b + is_edge x (first_id cs) a b
to_first x [] a b closed = absurd (true≢false (sym closed))
to_first x (d ∷ ds) a b closed = omega arith

parts : (before : ℕ) (ended : Bool) (cs : List Cell) (k a b : ℕ) → IsClosed ended cs → k < length cs
    → edges_along before cs a b ≡ edges_apart before cs k a b + (is_edge (id_before before cs k) (id_at cs k) a b + is_edge (id_at cs k) (id_behind (drop k cs)) a b)
parts before ended [] k a b closed l = absurd (omega (arith, l))
parts before ended (c ∷ cs) zero a b closed l =
    elim (cases_Bool c.last) [
      | inl t ↦ rw t (omega arith)
      | inr f ↦
          let next : edges_along c.id cs a b ≡ edges_behind cs a b + is_edge c.id (first_id cs) a b = to_first c.id cs a b (subst (λ (z : Bool). IsClosed z cs) f closed) in
          rw f (omega (arith, next))
    ]
parts before ended (c ∷ cs) (suc k) a b closed l =
    let more = parts (before_next c) c.last cs k a b closed (omega (arith, l)) in
    omega (arith, more)

given-apart : (before id k a b : ℕ) (cs : List Cell) → edges_apart before (given id k cs) k a b ≡ edges_apart before cs k a b
given-apart before id k a b [] = refl
given-apart before id zero a b (c ∷ cs) = refl
given-apart before id (suc k) a b (c ∷ cs) = ap (λ n. edges_at before c a b + n) (given-apart (before_next c) id k a b cs)

-- what stands around a cell are some of the edges
around-le : (cs : List Cell) (k a b : ℕ) → IsClosed true cs → k < length cs → edges_around k cs a b ≤ edges_along INITIAL cs a b
around-le cs k a b closed l = let all = parts INITIAL true cs k a b closed l in omega (arith, all)

-- the counts without one cell stay where that cell is given an id
pub given-counts : (t : Tables) (id k : ℕ) (cs : List Cell) → IsClosed true cs → k < length cs → HasCountsBut t k cs → HasCountsBut t k (given id k cs)
given-counts t id k cs closed l h =
    let long : length (given id k cs) ≡ length cs = length-given id k cs in
    let there : id_at (given id k cs) k ≡ id = given-there id k cs l in
    record {
      sizes = λ p low.
          let was : size_at t p + cond {A = ℕ} (id_at cs k == p) 1 0 ≡ cells_with p cs = h.sizes p low in
          let more : cells_with p (given id k cs) + cond {A = ℕ} (id_at cs k == p) 1 0 ≡ cells_with p cs + cond {A = ℕ} (id == p) 1 0 = given-sizes id k p cs l in
          let same : cond {A = ℕ} (id_at (given id k cs) k == p) 1 0 ≡ cond {A = ℕ} (id == p) 1 0 = ap (λ i. cond {A = ℕ} (i == p) 1 0) there in
          omega (arith, was, more, same);
      counts = λ p q low low'.
          let was : count_at t p q + edges_around k cs p q ≡ edges_along INITIAL cs p q = h.counts p q low low' in
          let before = parts INITIAL true cs k p q closed l in
          let after = parts INITIAL true (given id k cs) k p q (given-closed id k true cs closed) (omega (arith, long, l)) in
          let same : edges_apart INITIAL (given id k cs) k p q ≡ edges_apart INITIAL cs k p q = given-apart INITIAL id k p q cs in
          omega (arith, was, before, after, same);
    }

-- ids before cells and behind them are ids
pub before-low : (before k : ℕ) (cs : List Cell) → before < MAX_PARTITIONS → AllByRecursion HasId cs → id_before before cs k < MAX_PARTITIONS
before-low before zero cs low all = low
before-low before (suc k) [] low all = low
before-low before (suc k) (c ∷ cs) low all =
    before-low (before_next c) k cs (elim c.last as (λ b. cond b INITIAL c.id < MAX_PARTITIONS) [ true ↦ omega arith | false ↦ all.0.1 ]) all.1

first-low : (cs : List Cell) → AllByRecursion HasId cs → first_id cs < MAX_PARTITIONS
first-low [] all = omega arith
first-low (c ∷ cs) all = all.0.1

-- so is the id behind a cell
pub behind-low : (k : ℕ) (cs : List Cell) → AllByRecursion HasId cs → id_behind (drop k cs) < MAX_PARTITIONS
behind-low k [] all = elim k as (λ n. id_behind (drop n []) < MAX_PARTITIONS) [ zero ↦ omega arith | suc n ↦ omega arith ]
behind-low zero (c ∷ cs) all = elim c.last as (λ b. cond b TERMINAL (first_id cs) < MAX_PARTITIONS) [ true ↦ omega arith | false ↦ first-low cs all.1 ]
behind-low (suc k) (c ∷ cs) all = behind-low k cs all.1

-- and its own
pub id-low : (k : ℕ) (cs : List Cell) → k < length cs → AllByRecursion HasId cs → id_at cs k < MAX_PARTITIONS
id-low k [] l all = absurd (omega (arith, l))
id-low zero (c ∷ cs) l all = all.0.1
id-low (suc k) (c ∷ cs) l all = id-low k cs (omega (arith, l)) all.1

-- sizes and counts are at most as many as cells
pub counts-few : (cs : List Cell) (a b : ℕ) → All HasId cs → length cs ≤ MAX_EVENTS → edges_along INITIAL cs a b ≤ MAX_EVENTS
counts-few cs a b ids few =
    let most : edges_along INITIAL cs a b ≤ length cs =
    edges_along-le INITIAL cs a b (all_weaker HasId (λ (c : Cell). FIRST_TYPE ≤ c.id) cs (λ c h. h.0) (recursion_from_All HasId cs ids)) in
    omega (arith, most, few)

-- what stands before the next cell
pub before-next : (before : ℕ) (cells : List Cell) (i : ℕ) (d : Cell) → i < length cells → id_before before cells (i + 1) ≡ before_next (get_or cells i d)
before-next before cells i d l = ap (λ (n : ℕ). id_before before cells n) (add-one i) ∙ go before cells i d l
  where
    go : (before : ℕ) (cells : List Cell) (i : ℕ) (d : Cell) → i < length cells → id_before before cells (suc i) ≡ before_next (get_or cells i d)
    go before [] i d l = absurd (omega (arith, l))
    go before (c ∷ cs) zero d l = refl
    go before (c ∷ cs) (suc i) d l = go (before_next c) cs i d (omega (arith, l))

-- the edges around a cell, by its id and those beside it as they are read
pub around-read : (cs : List Cell) (k before id behind a b : ℕ) → before ≡ id_before INITIAL cs k → id_at cs k ≡ id → behind ≡ id_behind (drop k cs)
    → edges_around k cs a b ≡ is_edge before id a b + is_edge id behind a b
around-read cs k before id behind a b e f g =
    ap₂ (λ m n. m + n) (ap₂ (λ x y. is_edge x y a b) (sym e) f) (ap₂ (λ x y. is_edge x y a b) f (sym g))

edge-itself : (x y : ℕ) → is_edge x y x y ≡ 1
edge-itself x y = ap₂ (λ s t. cond {A = ℕ} (s && t) 1 0) (eq-eqb x x refl) (eq-eqb y y refl)

-- where all is counted, so are the edges of a cell: the first of them is there to be taken away, and then the other
pub first-there : (t : Tables) (counts : List ℕ) (cs : List Cell) (k before id : ℕ) → IsClosed true cs → k < length cs → All HasId cs → HasCountsOf t cs → counts ≡ t.counts → before ≡ id_before INITIAL cs k → id_at cs k ≡ id
    → 0 < count_in counts before id
first-there t counts cs k before id closed l ids h kept e f =
    let all : AllByRecursion HasId cs = recursion_from_All HasId cs ids in
    let b_low : before < MAX_PARTITIONS = (let low = before-low INITIAL k cs (omega arith) all in omega (arith, low, e)) in
    let low : id < MAX_PARTITIONS = (let i = id-low k cs l all in omega (arith, i, f)) in
    let same : count_in counts before id ≡ count_at t before id = ap (λ (x : List ℕ). count_in x before id) kept in
    let is : count_at t before id ≡ edges_along INITIAL cs before id = h.counts before id b_low low in
    let most : edges_around k cs before id ≤ edges_along INITIAL cs before id = around-le cs k before id closed l in
    let near = around-read cs k before id (id_behind (drop k cs)) before id e f refl in
    let one = edge-itself before id in
    omega (arith, same, is, most, near, one)

-- the other edge, once the first is taken away
pub second-there : (t : Tables) (counts left : List ℕ) (cs : List Cell) (k before id behind : ℕ) → IsClosed true cs → k < length cs → All HasId cs → HasCountsOf t cs → counts ≡ t.counts
    → before ≡ id_before INITIAL cs k → id_at cs k ≡ id → behind ≡ id_behind (drop k cs)
    → ((p q : ℕ) → p < MAX_PARTITIONS → q < MAX_PARTITIONS → count_in left p q + is_edge before id p q ≡ count_in counts p q) → 0 < count_in left id behind
second-there t counts left cs k before id behind closed l ids h kept e f g taken =
    let all : AllByRecursion HasId cs = recursion_from_All HasId cs ids in
    let b_low : behind < MAX_PARTITIONS = (let low = behind-low k cs all in omega (arith, low, g)) in
    let low : id < MAX_PARTITIONS = (let i = id-low k cs l all in omega (arith, i, f)) in
    let same : count_in counts id behind ≡ count_at t id behind = ap (λ (x : List ℕ). count_in x id behind) kept in
    let less = taken id behind low b_low in
    let is : count_at t id behind ≡ edges_along INITIAL cs id behind = h.counts id behind low b_low in
    let most : edges_around k cs id behind ≤ edges_along INITIAL cs id behind = around-le cs k id behind closed l in
    let near = around-read cs k before id behind id behind e f g in
    let one = edge-itself id behind in
    omega (arith, same, less, is, most, near, one)

-- where all but a cell is counted, there is room for it and for its edges
pub size-room : (t : Tables) (cs : List Cell) (k id : ℕ) → k < length cs → All HasId cs → length cs ≤ MAX_EVENTS → HasCountsBut t k cs → id_at cs k ≡ id → size_at t id + 1 < 2 ^ 32
size-room t cs k id l ids few h f =
    let low : id < MAX_PARTITIONS = (let i = id-low k cs l (recursion_from_All HasId cs ids) in omega (arith, i, f)) in
    let is : size_at t id + cond {A = ℕ} (id_at cs k == id) 1 0 ≡ cells_with id cs = h.sizes id low in
    let most : cells_with id cs ≤ length cs = cells_with-le id cs in
    omega (arith, is, most, few)

-- for the edge to it
pub first-room : (t : Tables) (counts : List ℕ) (cs : List Cell) (k before id : ℕ) → k < length cs → All HasId cs → length cs ≤ MAX_EVENTS → HasCountsBut t k cs → counts ≡ t.counts → before ≡ id_before INITIAL cs k → id_at cs k ≡ id
    → count_in counts before id + 1 < 2 ^ 32
first-room t counts cs k before id l ids few h kept e f =
    let all : AllByRecursion HasId cs = recursion_from_All HasId cs ids in
    let b_low : before < MAX_PARTITIONS = (let low = before-low INITIAL k cs (omega arith) all in omega (arith, low, e)) in
    let low : id < MAX_PARTITIONS = (let i = id-low k cs l all in omega (arith, i, f)) in
    let same : count_in counts before id ≡ count_at t before id = ap (λ (x : List ℕ). count_in x before id) kept in
    let is : count_at t before id + edges_around k cs before id ≡ edges_along INITIAL cs before id = h.counts before id b_low low in
    let most = counts-few cs before id ids few in
    omega (arith, same, is, most)

-- for the edge from it, once that is counted
pub second-room : (t : Tables) (counts more : List ℕ) (cs : List Cell) (k before id behind : ℕ) → k < length cs → All HasId cs → length cs ≤ MAX_EVENTS → HasCountsBut t k cs → counts ≡ t.counts
    → before ≡ id_before INITIAL cs k → id_at cs k ≡ id → behind ≡ id_behind (drop k cs)
    → ((p q : ℕ) → p < MAX_PARTITIONS → q < MAX_PARTITIONS → count_in more p q ≡ count_in counts p q + is_edge before id p q) → count_in more id behind + 1 < 2 ^ 32
second-room t counts more cs k before id behind l ids few h kept e f g added =
    let all : AllByRecursion HasId cs = recursion_from_All HasId cs ids in
    let b_low : behind < MAX_PARTITIONS = (let low = behind-low k cs all in omega (arith, low, g)) in
    let low : id < MAX_PARTITIONS = (let i = id-low k cs l all in omega (arith, i, f)) in
    let same : count_in counts id behind ≡ count_at t id behind = ap (λ (x : List ℕ). count_in x id behind) kept in
    let one_more = added id behind low b_low in
    let is : count_at t id behind + edges_around k cs id behind ≡ edges_along INITIAL cs id behind = h.counts id behind low b_low in
    let near = around-read cs k before id behind id behind e f g in
    let most = counts-few cs id behind ids few in
    omega (arith, same, one_more, is, near, most)
