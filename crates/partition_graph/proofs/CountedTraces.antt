-- Traces of a graph that are counted one after another, each of them as often as it is asked for.
use Rattle.std.proofs.Common.{◌≡◌, true, ℕ, ◌+◌, ◌<◌, ◌≤◌, List, [], ◌∷◌, ◌++◌, length, take, get_or, All, arith, ap, sym, ◌∙◌, refl, subst, length-append}
use Rattle.std.proofs.lemmas.List.{append-nil, get_or-map, length-map, map-append, take-map, take_more}
use Rattle.std.proofs.lemmas.List.Concat.{flat_map-append}
use Rattle.std.proofs.lemmas.List.Elements.{All-from_recursion, All-take, recursion_from_All}
use Rattle.std.proofs.lemmas.List.Folds.{length-flat_map-take}
use Rattle.std.specs.List.{AllByRecursion}
use Rattle.limits.specs.declared.TheConstants.{INITIAL, FIRST_TYPE, MAX_EVENTS}
use Rattle.partition_model.specs.Assignments.{Assignment, Event, edge_count, events, first_type, members, type_of}
use Rattle.partition_model.specs.Listings.{AreBelow}
use Rattle.partition_graph.specs.declared.cells.Cell.{Cell}
use Rattle.partition_graph.specs.declared.tables.Tables.{Tables}
use Rattle.partition_graph.specs.Cells.{traces_of, IsClosed}
use Rattle.partition_graph.specs.Counts.{HasId}
use Rattle.partition_graph.specs.Kept.{IsKept}
use Rattle.partition_graph.specs.Shared.{joined_traces, picked, trace_cells}
use Rattle.partition_graph.specs.Spread.{spread}
use Rattle.partition_graph.specs.Tables.{HasRoomFor, IsClear, IsCountedFor, IsCountMore, IsCountOf}
use Rattle.partition_graph.proofs.CellTraces.{cells_with-le, members_are, types_are}
use Rattle.partition_graph.proofs.Copied.{all_parts, copied_below, copied_closed, copied_ids, copied_traces, copied_typed}
use Rattle.partition_graph.proofs.CountedWords.{cells_with-append, counted-more, edges_along-append}
use Rattle.partition_graph.proofs.Edges.{edges_along-le, edges_are}
use Rattle.partition_graph.proofs.WordCells.{all_events, all_weaker}

-- the cells of the first traces that are asked for
abbrev some_of : List Cell → List ℕ → ℕ → List Cell
some_of cells numbers i = joined_traces (picked (take i numbers) (trace_cells cells))

-- with one trace more
pub one_more : (cells : List Cell) (numbers : List ℕ) (i : ℕ) (x : List Cell) → i < length numbers → x ≡ get_or (trace_cells cells) (get_or numbers i 0) []
    → some_of cells numbers (i + 1) ≡ some_of cells numbers i ++ x
one_more cells numbers i x l e =
    let pick : ℕ → List Cell = λ k. get_or (trace_cells cells) k [] in
    let more : take (i + 1) numbers ≡ take i numbers ++ get_or numbers i 0 ∷ [] = take_more numbers i 0 l in
    ap (λ (ns : List ℕ). joined_traces (picked ns (trace_cells cells))) more
    ∙ ap (λ (ts : List (List Cell)). joined_traces ts) (map-append pick (take i numbers) (get_or numbers i 0 ∷ []))
    ∙ flat_map-append (λ (u : List Cell). u) (picked (take i numbers) (trace_cells cells)) (pick (get_or numbers i 0) ∷ [])
    ∙ ap (λ (cs : List Cell). some_of cells numbers i ++ cs) (append-nil (pick (get_or numbers i 0)) ∙ sym e)

-- not more than all of them
some-few : (cells : List Cell) (numbers : List ℕ) (i : ℕ) → i < length numbers → length (some_of cells numbers (i + 1)) ≤ length (joined_traces (picked numbers (trace_cells cells)))
some-few cells numbers i l =
    let pick : ℕ → List Cell = λ k. get_or (trace_cells cells) k [] in
    let all : List (List Cell) = picked numbers (trace_cells cells) in
    let x : List Cell = pick (get_or numbers i 0) in
    let long : length all ≡ length numbers = length-map numbers pick in
    let a = length-flat_map-take (λ (u : List Cell). u) all i [] (omega (arith, l, long)) in
    let at : get_or all i [] ≡ x = get_or-map pick numbers i 0 [] l in
    let first : take i all ≡ picked (take i numbers) (trace_cells cells) = take-map pick i numbers in
    let m : length (some_of cells numbers (i + 1)) ≡ length (some_of cells numbers i ++ x) = ap (λ (cs : List Cell). length cs) (one_more cells numbers i x l refl) in
    let n : length (some_of cells numbers i ++ x) ≡ length (some_of cells numbers i) + length x = length-append (some_of cells numbers i) x in
    let s : length (joined_traces (take i all)) ≡ length (some_of cells numbers i) = ap (λ (ts : List (List Cell)). length (joined_traces ts)) first in
    let y : length (get_or all i []) ≡ length x = ap (λ (cs : List Cell). length cs) at in
    omega (arith, a, m, n, s, y)

-- nothing is counted yet
pub none_counted : (tables : Tables) → IsClear tables → IsCountOf tables []
none_counted tables clear = record { types = λ p l. clear.types p l; sizes = λ p l. clear.sizes p l; counts = λ p q l m. clear.counts p q l m }

-- the cells of a trace have ids of partitions of events
pub trace_ids : (cells : List Cell) (numbers : List ℕ) (i : ℕ) (x : List Cell) → i < length numbers → x ≡ get_or (trace_cells cells) (get_or numbers i 0) [] → All HasId cells
    → All (λ k. k < length (trace_cells cells)) numbers → All HasId x
trace_ids cells numbers i x l e ids within =
    let all : All HasId (some_of cells numbers (i + 1)) = copied_ids cells (take (i + 1) numbers) ids (All-take (λ k. k < length (trace_cells cells)) (i + 1) numbers within) in
    All-from_recursion HasId x
    (all_parts HasId (some_of cells numbers i) x (recursion_from_All HasId (some_of cells numbers i ++ x) (subst (λ (cs : List Cell). All HasId cs) (one_more cells numbers i x l e) all))).1

-- there is room to count one more trace
pub room_for_trace : (old : Tables) (cells : List Cell) (numbers : List ℕ) (i : ℕ) (x : List Cell) → i < length numbers → x ≡ get_or (trace_cells cells) (get_or numbers i 0) [] → All HasId cells → IsClosed true cells
    → All (λ k. k < length (trace_cells cells)) numbers → length (joined_traces (picked numbers (trace_cells cells))) ≤ MAX_EVENTS → IsCountOf old (some_of cells numbers i) → HasRoomFor old x
room_for_trace old cells numbers i x l e ids closed within few k =
    let before : List Cell = some_of cells numbers i in
    let all : List Cell = before ++ x in
    let more : some_of cells numbers (i + 1) ≡ all = one_more cells numbers i x l e in
    let long : length all ≤ MAX_EVENTS = (let m = some-few cells numbers i l in let n = ap (λ (cs : List Cell). length cs) more in omega (arith, m, n, few)) in
    let have : All HasId all = subst (λ (cs : List Cell). All HasId cs) more (copied_ids cells (take (i + 1) numbers) ids (All-take (λ j. j < length (trace_cells cells)) (i + 1) numbers within)) in
    let two : AllByRecursion (λ (c : Cell). FIRST_TYPE ≤ c.id) all = all_weaker HasId (λ (c : Cell). FIRST_TYPE ≤ c.id) all (λ c h. h.0) (recursion_from_All HasId all have) in
    let ends : IsClosed true before = copied_closed cells (take i numbers) closed (All-take (λ j. j < length (trace_cells cells)) i numbers within) in
    record {
      sizes = λ p m. omega (arith, long, k.sizes p m, cells_with-append p before x, cells_with-le p all);
      counts = λ p q m n. omega (arith, long, k.counts p q m n, edges_along-append INITIAL true before x p q ends (λ t. refl), edges_along-le INITIAL all p q two);
    }

-- one more trace is counted
pub one_more_counted : (old new : Tables) (cells : List Cell) (numbers : List ℕ) (i : ℕ) (x : List Cell) → i < length numbers → x ≡ get_or (trace_cells cells) (get_or numbers i 0) [] → IsClosed true cells
    → All (λ k. k < length (trace_cells cells)) numbers → IsCountOf old (some_of cells numbers i) → IsCountMore old new x → IsCountOf new (some_of cells numbers (i + 1))
one_more_counted old new cells numbers i x l e closed within k more =
    let ends : IsClosed true (some_of cells numbers i) = copied_closed cells (take i numbers) closed (All-take (λ j. j < length (trace_cells cells)) i numbers within) in
    subst (λ (cs : List Cell). IsCountOf new cs) (sym (one_more cells numbers i x l e)) (counted-more old new (some_of cells numbers i) x ends k more)

-- what is counted of copies is counted for their traces
pub copies_counted : (cells : List Cell) (firsts : List ℕ) (tables : Tables) (used : ℕ) (numbers : List ℕ) (counted : Tables) (n : ℕ) → IsKept cells firsts tables used → All (λ k. k < length (trace_cells cells)) numbers
    → n ≡ length numbers → IsCountOf counted (joined_traces (picked numbers (trace_cells cells))) → IsCountedFor counted n (spread numbers (traces_of cells))
copies_counted cells firsts tables used numbers counted n k w e is =
    let T : ℕ → ℕ = λ x. type_of (traces_of cells) x in
    let copies : List Cell = joined_traces (picked numbers (trace_cells cells)) in
    let same : traces_of copies ≡ spread numbers (traces_of cells) = copied_traces cells numbers k.closed w in
    let typed = all_weaker (λ (c : Cell). (2 ≤ c.id) × (c.typ ≡ T c.id)) (λ (c : Cell). c.typ ≡ T c.id) copies (λ c m. m.1) (copied_typed cells firsts tables used numbers k w) in
    record {
      traces_are = e ∙ sym (length-map numbers (λ j. get_or (traces_of cells) j []));
      types_are = λ p l. is.types p l ∙ types_are T p copies typed ∙ ap (λ (h : Assignment). first_type p (events h)) same;
      sizes_are = λ p l. is.sizes p l ∙ sym (members_are p copies) ∙ ap (λ (h : Assignment). members h p) same;
      counts_are = λ p q l m. is.counts p q l m ∙ edges_are copies p q (copied_closed cells numbers k.closed w) ∙ ap (λ (h : Assignment). edge_count h p q) same;
    }

-- their ids are used
pub copies_below : (cells : List Cell) (firsts : List ℕ) (tables : Tables) (used : ℕ) (numbers : List ℕ) → IsKept cells firsts tables used → All (λ k. k < length (trace_cells cells)) numbers
    → AreBelow used (spread numbers (traces_of cells))
copies_below cells firsts tables used numbers k w =
    let copies : List Cell = joined_traces (picked numbers (trace_cells cells)) in
    subst (λ (h : Assignment). AreBelow used h) (copied_traces cells numbers k.closed w) (all_events (λ (e : Event). e.id < used) copies (copied_below cells firsts tables used numbers k w))
