-- Traces of a graph that are copied, each of them as often as it is asked for.
use Rattle.std.proofs.Common.{◌≡◌, ℕ, suc, ◌+◌, ◌-◌, ◌<◌, ◌≤◌, Bool, true, false, cond, List, [], ◌∷◌, ◌++◌, length, map, take, drop, get_or, All, arith, ap, sym, ◌∙◌, refl, subst, inl, inr, length-append, take-append-drop}
use Rattle.std.proofs.Math.Seq.{drop-cons, take_at, drop_at}
use Rattle.std.proofs.lemmas.Bool.{cases_Bool, cases_lt}
use Rattle.std.proofs.lemmas.List.{length-map, map-append, take-map, take_more, take_all, length_push, get_or_push, get_or_append_left, append-nil, get_or-map}
use Rattle.std.proofs.lemmas.List.Concat.{flat_map-append}
use Rattle.std.proofs.lemmas.List.Elements.{All-get_or, All-tail, All-head, All-from_recursion, recursion_from_All}
use Rattle.std.proofs.lemmas.List.Folds.{length-flat_map-take}
use Rattle.std.specs.List.{AllByRecursion}
use Rattle.limits.specs.declared.TheConstants.{MAX_EVENTS}
use Rattle.partition_model.specs.Assignments.{Event, Assignment, events, type_of}
use Rattle.partition_model.specs.Listings.{first_event}
use Rattle.partition_model.proofs.Naming.{typed_from}
use Rattle.partition_graph.specs.declared.cells.Cell.{Cell}
use Rattle.partition_graph.specs.declared.tables.Tables.{Tables}
use Rattle.partition_graph.specs.Cells.{event_of, put_before, traces_of, IsClosed}
use Rattle.partition_graph.specs.Counts.{HasId}
use Rattle.partition_graph.specs.Kept.{IsKept}
use Rattle.partition_graph.specs.Shared.{put_cell, trace_cells, joined_traces, picked, Begin}
use Rattle.partition_graph.specs.Spread.{spread}
use Rattle.partition_graph.specs.Tables.{IsCountOf}
use Rattle.partition_graph.proofs.CellTraces.{length-events, types_are, members_are}
use Rattle.partition_graph.proofs.Edges.{edges_are}
use Rattle.partition_graph.proofs.Moving.{all_cells}
use Rattle.partition_graph.proofs.WordCells.{all_weaker, all_append, all_events}

-- the events of a trace's cells
abbrev pub events_in : List Cell → List Event
events_in t = map event_of t

-- cells that make one trace, whatever stands behind them
record IsWhole (t : List Cell) : Type 0 where
  pub trace : (cs : List Cell) → traces_of (t ++ cs) ≡ events_in t ∷ traces_of cs
  pub closed : (ended : Bool) (cs : List Cell) → IsClosed true cs → IsClosed ended (t ++ cs)

last_whole : (c : Cell) → c.last ≡ true → IsWhole (c ∷ [])
last_whole c e =
    record {
      trace = λ cs. rw e;
      closed = λ ended cs k. subst (λ (z : Bool). IsClosed z cs) (sym e) k;
    }

longer_whole : (c : Cell) (t : List Cell) → c.last ≡ false → IsWhole t → IsWhole (c ∷ t)
longer_whole c t e w =
    record {
      trace = λ cs. (let i : traces_of (t ++ cs) ≡ events_in t ∷ traces_of cs = w.trace cs in rw e (ap (λ (h : Assignment). put_before (event_of c) h) i));
      closed = λ ended cs k. w.closed c.last cs k;
    }

put_whole : (c : Cell) (ts : List (List Cell)) → 0 < length ts → c.last ≡ false → AllByRecursion IsWhole ts → AllByRecursion IsWhole (put_cell c ts)
put_whole c [] l e a = absurd (omega arith)
put_whole c (t ∷ ts) l e a = (longer_whole c t e a.0, a.1)

some_traces : (c : Cell) (cs : List Cell) → 0 < length (trace_cells (c ∷ cs))
some_traces c cs =
    elim c.last as (λ b. 0 < length (cond b ((c ∷ []) ∷ trace_cells cs) (put_cell c (trace_cells cs)))) [
      | true ↦ omega arith
      | false ↦ elim (trace_cells cs) as (λ ts. 0 < length (put_cell c ts)) [ [] ↦ omega arith | t ∷ ts ↦ omega arith ]
    ]

more_whole : (c : Cell) (cs : List Cell) → c.last ≡ false → IsClosed false cs → AllByRecursion IsWhole (trace_cells cs) → AllByRecursion IsWhole (put_cell c (trace_cells cs))
more_whole c [] e k a = absurd (cc k)
more_whole c (d ∷ ds) e k a = put_whole c (trace_cells (d ∷ ds)) (some_traces d ds) e a

-- the cells of each trace make one trace
all_whole : (ended : Bool) (cs : List Cell) → IsClosed ended cs → AllByRecursion IsWhole (trace_cells cs)
all_whole ended [] k = tt
all_whole ended (c ∷ cs) k =
    let i : AllByRecursion IsWhole (trace_cells cs) = all_whole c.last cs k in
    elim (cases_Bool c.last) [
      | inl t ↦ subst (λ b. AllByRecursion IsWhole (cond b ((c ∷ []) ∷ trace_cells cs) (put_cell c (trace_cells cs)))) (sym t) ((last_whole c t, i))
      | inr f ↦ subst (λ b. AllByRecursion IsWhole (cond b ((c ∷ []) ∷ trace_cells cs) (put_cell c (trace_cells cs)))) (sym f) (more_whole c cs f (subst (λ (z : Bool). IsClosed z cs) f k) i)
    ]

joined_put : (c : Cell) (ts : List (List Cell)) → joined_traces (put_cell c ts) ≡ c ∷ joined_traces ts
joined_put c [] = refl
joined_put c (t ∷ ts) = refl

-- one behind another they are the cells
pub joined_cells_are : (cs : List Cell) → joined_traces (trace_cells cs) ≡ cs
joined_cells_are [] = refl
joined_cells_are (c ∷ cs) =
    let i : joined_traces (trace_cells cs) ≡ cs = joined_cells_are cs in
    elim c.last as (λ b. joined_traces (cond b ((c ∷ []) ∷ trace_cells cs) (put_cell c (trace_cells cs))) ≡ c ∷ cs) [
      | true ↦ ap (λ (xs : List Cell). c ∷ xs) i
      | false ↦ joined_put c (trace_cells cs) ∙ ap (λ (xs : List Cell). c ∷ xs) i
    ]

whole_traces : (ts : List (List Cell)) → AllByRecursion IsWhole ts → traces_of (joined_traces ts) ≡ map events_in ts
whole_traces [] a = refl
whole_traces (t ∷ ts) a = a.0.trace (joined_traces ts) ∙ ap (λ (h : Assignment). events_in t ∷ h) (whole_traces ts a.1)

whole_closed : (ts : List (List Cell)) → AllByRecursion IsWhole ts → IsClosed true (joined_traces ts)
whole_closed [] a = refl
whole_closed (t ∷ ts) a = a.0.closed true (joined_traces ts) (whole_closed ts a.1)

-- the traces of cells by the cells of each
pub traces_by_cells : (cs : List Cell) → IsClosed true cs → traces_of cs ≡ map events_in (trace_cells cs)
traces_by_cells cs k = ap (λ (xs : List Cell). traces_of xs) (sym (joined_cells_are cs)) ∙ whole_traces (trace_cells cs) (all_whole true cs k)

all_picked : (P : List Cell → Type 0) (ts : List (List Cell)) (numbers : List ℕ) → AllByRecursion P ts → All (λ k. k < length ts) numbers → AllByRecursion P (picked numbers ts)
all_picked P ts [] a w = tt
all_picked P ts (n ∷ ns) a w =
    (All-get_or P ts n [] (All-head (λ k. k < length ts) n ns w) (All-from_recursion P ts a), all_picked P ts ns a (All-tail (λ k. k < length ts) n ns w))

pub all_parts : (P : Cell → Type 0) (xs ys : List Cell) → AllByRecursion P (xs ++ ys) → AllByRecursion P xs × AllByRecursion P ys
all_parts P [] ys a = (tt, a)
all_parts P (x ∷ xs) ys a = let b : AllByRecursion P xs × AllByRecursion P ys = all_parts P xs ys a.1 in ((a.0, b.0), b.1)

each_trace : (P : Cell → Type 0) (ts : List (List Cell)) → AllByRecursion P (joined_traces ts) → AllByRecursion (λ (t : List Cell). AllByRecursion P t) ts
each_trace P [] a = tt
each_trace P (t ∷ ts) a = let b : AllByRecursion P t × AllByRecursion P (joined_traces ts) = all_parts P t (joined_traces ts) a in (b.0, each_trace P ts b.1)

all_joined : (P : Cell → Type 0) (ts : List (List Cell)) → AllByRecursion (λ (t : List Cell). AllByRecursion P t) ts → AllByRecursion P (joined_traces ts)
all_joined P [] a = tt
all_joined P (t ∷ ts) a = all_append P t (joined_traces ts) a.0 (all_joined P ts a.1)

-- what holds of each cell holds of each that is copied
pub all_copied : (P : Cell → Type 0) (cs : List Cell) (numbers : List ℕ) → AllByRecursion P cs → All (λ k. k < length (trace_cells cs)) numbers → AllByRecursion P (joined_traces (picked numbers (trace_cells cs)))
all_copied P cs numbers a w =
    all_joined P (picked numbers (trace_cells cs))
    (all_picked (λ (t : List Cell). AllByRecursion P t) (trace_cells cs) numbers
    (each_trace P (trace_cells cs) (subst (λ (xs : List Cell). AllByRecursion P xs) (sym (joined_cells_are cs)) a)) w)

picked_events : (ts : List (List Cell)) (numbers : List ℕ) → All (λ k. k < length ts) numbers → map events_in (picked numbers ts) ≡ spread numbers (map events_in ts)
picked_events ts [] w = refl
picked_events ts (n ∷ ns) w =
    let a : events_in (get_or ts n []) ≡ get_or (map events_in ts) n [] = sym (get_or-map events_in ts n [] [] (All-head (λ k. k < length ts) n ns w)) in
    ap (λ (t : List Event). t ∷ map events_in (picked ns ts)) a ∙ ap (λ (h : Assignment). get_or (map events_in ts) n [] ∷ h) (picked_events ts ns (All-tail (λ k. k < length ts) n ns w))

-- the traces of the copies
pub copied_traces : (cs : List Cell) (numbers : List ℕ) → IsClosed true cs → All (λ k. k < length (trace_cells cs)) numbers → traces_of (joined_traces (picked numbers (trace_cells cs))) ≡ spread numbers (traces_of cs)
copied_traces cs numbers k w =
    whole_traces (picked numbers (trace_cells cs)) (all_picked IsWhole (trace_cells cs) numbers (all_whole true cs k) w)
    ∙ picked_events (trace_cells cs) numbers w ∙ ap (λ (h : Assignment). spread numbers h) (sym (traces_by_cells cs k))

pub copied_closed : (cs : List Cell) (numbers : List ℕ) → IsClosed true cs → All (λ k. k < length (trace_cells cs)) numbers → IsClosed true (joined_traces (picked numbers (trace_cells cs)))
copied_closed cs numbers k w = whole_closed (picked numbers (trace_cells cs)) (all_picked IsWhole (trace_cells cs) numbers (all_whole true cs k) w)

-- as many traces as lists of cells
pub trace_count : (cs : List Cell) → IsClosed true cs → length (trace_cells cs) ≡ length (traces_of cs)
trace_count cs k = sym (ap (λ (h : Assignment). length h) (traces_by_cells cs k) ∙ length-map (trace_cells cs) events_in)

joined_events : (ts : List (List Cell)) → events (map events_in ts) ≡ map event_of (joined_traces ts)
joined_events [] = refl
joined_events (t ∷ ts) = ap (λ (es : List Event). events_in t ++ es) (joined_events ts) ∙ sym (map-append event_of t (joined_traces ts))

-- a trace begins behind the cells of those before it
pub first_cell : (ts : List (List Cell)) (t : ℕ) → first_event (map events_in ts) t ≡ length (joined_traces (take t ts))
first_cell ts t =
    ap (λ (h : Assignment). length (events h)) (take-map events_in t ts)
    ∙ ap (λ (es : List Event). length es) (joined_events (take t ts)) ∙ length-map (joined_traces (take t ts)) event_of

-- where the traces of a graph begin
pub begins : (cells : List Cell) (firsts : List ℕ) (tables : Tables) (used : ℕ) → IsKept cells firsts tables used → Begin firsts (trace_cells cells)
begins cells firsts tables used k =
    let n : length (trace_cells cells) ≡ length (traces_of cells) = trace_count cells k.closed in
    record {
      count = k.first_count ∙ sym n;
      firsts_are = λ t l. k.firsts_are t (let f : length firsts ≡ length (traces_of cells) = k.first_count in omega arith)
          ∙ ap (λ (h : Assignment). first_event h t) (traces_by_cells cells k.closed) ∙ first_cell (trace_cells cells) t;
    }

-- the numbers of traces are those of lists of cells
pub numbers_within : (cells : List Cell) (numbers : List ℕ) (h : Assignment) → IsClosed true cells → h ≡ traces_of cells → All (λ k. k < length h) numbers → All (λ k. k < length (trace_cells cells)) numbers
numbers_within cells numbers h k e w =
    subst (λ n. All (λ j. j < n) numbers) (ap (λ (g : Assignment). length g) e ∙ sym (trace_count cells k)) w

-- as many copies as events
pub copies-few : (cells : List Cell) (numbers : List ℕ) (h : Assignment) → IsClosed true cells → h ≡ traces_of cells → All (λ k. k < length (trace_cells cells)) numbers → length (events (spread numbers h)) ≤ MAX_EVENTS
    → length (joined_traces (picked numbers (trace_cells cells))) ≤ MAX_EVENTS
copies-few cells numbers h k e w few =
    let same : spread numbers h ≡ traces_of (joined_traces (picked numbers (trace_cells cells))) = ap (λ (g : Assignment). spread numbers g) e ∙ sym (copied_traces cells numbers k w) in
    let m : length (events (spread numbers h)) ≡ length (joined_traces (picked numbers (trace_cells cells))) = ap (λ (g : Assignment). length (events g)) same ∙ length-events (joined_traces (picked numbers (trace_cells cells))) in
    omega arith

-- each copy has the id of a partition of events
pub copied_ids : (cells : List Cell) (numbers : List ℕ) → All HasId cells → All (λ k. k < length (trace_cells cells)) numbers → All HasId (joined_traces (picked numbers (trace_cells cells)))
copied_ids cells numbers ids w =
    All-from_recursion HasId (joined_traces (picked numbers (trace_cells cells))) (all_copied HasId cells numbers (recursion_from_All HasId cells ids) w)

-- the type of each copy is that of its id
pub copied_typed : (cells : List Cell) (firsts : List ℕ) (tables : Tables) (used : ℕ) (numbers : List ℕ) → IsKept cells firsts tables used → All (λ k. k < length (trace_cells cells)) numbers
    → AllByRecursion (λ (c : Cell). (2 ≤ c.id) × (c.typ ≡ type_of (traces_of cells) c.id)) (joined_traces (picked numbers (trace_cells cells)))
copied_typed cells firsts tables used numbers k w =
    let T : ℕ → ℕ = λ x. type_of (traces_of cells) x in
    all_copied (λ (c : Cell). (2 ≤ c.id) × (c.typ ≡ T c.id)) cells numbers (all_cells (λ (e : Event). (2 ≤ e.id) × (e.typ ≡ T e.id)) cells k.typed) w

-- its id is used
pub copied_below : (cells : List Cell) (firsts : List ℕ) (tables : Tables) (used : ℕ) (numbers : List ℕ) → IsKept cells firsts tables used → All (λ k. k < length (trace_cells cells)) numbers
    → AllByRecursion (λ (c : Cell). c.id < used) (joined_traces (picked numbers (trace_cells cells)))
copied_below cells firsts tables used numbers k w = all_copied (λ (c : Cell). c.id < used) cells numbers (all_cells (λ (e : Event). e.id < used) cells k.below) w

-- the graph of copies
pub copied_kept : (cells : List Cell) (firsts : List ℕ) (tables : Tables) (used : ℕ) (numbers : List ℕ) (copies : List Cell) (starts : List ℕ) (counted : Tables) → IsKept cells firsts tables used
    → All (λ k. k < length (trace_cells cells)) numbers → copies ≡ joined_traces (picked numbers (trace_cells cells)) → Begin starts (picked numbers (trace_cells cells)) → length copies ≤ MAX_EVENTS
    → IsCountOf counted copies → IsKept copies starts counted used
copied_kept cells firsts tables used numbers copies starts counted k w e b few n =
    let T : ℕ → ℕ = λ x. type_of (traces_of cells) x in
    let typed : AllByRecursion (λ (c : Cell). (2 ≤ c.id) × (c.typ ≡ T c.id)) copies =
    subst (λ (cs : List Cell). AllByRecursion (λ (c : Cell). (2 ≤ c.id) × (c.typ ≡ T c.id)) cs) (sym e)
    (copied_typed cells firsts tables used numbers k w) in
    let below : AllByRecursion (λ (c : Cell). c.id < used) copies =
    subst (λ (cs : List Cell). AllByRecursion (λ (c : Cell). c.id < used) cs) (sym e)
    (copied_below cells firsts tables used numbers k w) in
    let closed : IsClosed true copies = subst (λ (cs : List Cell). IsClosed true cs) (sym e) (copied_closed cells numbers k.closed w) in
    let by : traces_of copies ≡ map events_in (picked numbers (trace_cells cells)) =
    ap (λ (cs : List Cell). traces_of cs) e ∙ whole_traces (picked numbers (trace_cells cells)) (all_picked IsWhole (trace_cells cells) numbers (all_whole true cells k.closed) w) in
    let count : length (traces_of copies) ≡ length (picked numbers (trace_cells cells)) = ap (λ (h : Assignment). length h) by ∙ length-map (picked numbers (trace_cells cells)) events_in in
    record {
      two = k.two;
      limit = k.limit;
      few = few;
      closed = closed;
      typed = typed_from T (traces_of copies) (all_events (λ (e : Event). (2 ≤ e.id) × (e.typ ≡ T e.id)) copies typed);
      below = all_events (λ (e : Event). e.id < used) copies below;
      first_count = b.count ∙ sym count;
      firsts_are = λ t l. b.firsts_are t (let f : length starts ≡ length (picked numbers (trace_cells cells)) = b.count in omega arith)
          ∙ sym (first_cell (picked numbers (trace_cells cells)) t) ∙ ap (λ (h : Assignment). first_event h t) (sym by);
      types_are = λ p l. n.types p l ∙ types_are T p copies (all_weaker (λ (c : Cell). (2 ≤ c.id) × (c.typ ≡ T c.id)) (λ (c : Cell). c.typ ≡ T c.id) copies (λ c m. m.1) typed);
      sizes_are = λ p l. n.sizes p l ∙ sym (members_are p copies);
      counts_are = λ p q x y. n.counts p q x y ∙ edges_are copies p q closed;
    }

-- where a trace stands between the others
pub trace_stands : (cells : List Cell) (firsts : List ℕ) (t : ℕ) → Begin firsts (trace_cells cells) → t < length (trace_cells cells)
    → (get_or firsts t 0 + length (get_or (trace_cells cells) t []) ≤ length cells)
    × ((b : ℕ) → b ≡ get_or firsts t 0 + length (get_or (trace_cells cells) t []) → take (b - get_or firsts t 0) (drop (get_or firsts t 0) cells) ≡ get_or (trace_cells cells) t [])
trace_stands cells firsts t b l =
    let ts : List (List Cell) = trace_cells cells in
    let x : List Cell = get_or ts t [] in
    let A : List Cell = joined_traces (take t ts) in
    let R : List Cell = joined_traces (drop (suc t) ts) in
    let parts : ts ≡ take t ts ++ (x ∷ drop (suc t) ts) = sym (take-append-drop t ts) ∙ ap (λ (us : List (List Cell)). take t ts ++ us) (drop-cons ts t [] l) in
    let all : cells ≡ A ++ (x ++ R) = sym (joined_cells_are cells) ∙ ap (λ (us : List (List Cell)). joined_traces us) parts ∙ flat_map-append (λ (u : List Cell). u) (take t ts) (x ∷ drop (suc t) ts) in
    let at : get_or firsts t 0 ≡ length A = b.firsts_are t l in
    let n1 : length (A ++ (x ++ R)) ≡ length A + length (x ++ R) = length-append A (x ++ R) in
    let n2 : length (x ++ R) ≡ length x + length R = length-append x R in
    let n3 : length cells ≡ length (A ++ (x ++ R)) = ap (λ (cs : List Cell). length cs) all in (
      omega arith,
      λ b2 e.
          let front : drop (get_or firsts t 0) cells ≡ x ++ R = ap (λ (cs : List Cell). drop (get_or firsts t 0) cs) all ∙ drop_at A (x ++ R) (get_or firsts t 0) (sym at) in
          let long : length x ≡ b2 - get_or firsts t 0 = omega arith in
          ap (λ (cs : List Cell). take (b2 - get_or firsts t 0) cs) front ∙ take_at x R (b2 - get_or firsts t 0) long,
    )

-- where the trace behind it begins, or all cells end
pub trace_ends : (cells : List Cell) (firsts : List ℕ) (t : ℕ) → Begin firsts (trace_cells cells) → t < length (trace_cells cells)
    → length (joined_traces (take (t + 1) (trace_cells cells))) ≡ get_or firsts t 0 + length (get_or (trace_cells cells) t [])
trace_ends cells firsts t b l =
    let ts : List (List Cell) = trace_cells cells in
    let x : List Cell = get_or ts t [] in
    let more : take (t + 1) ts ≡ take t ts ++ x ∷ [] = take_more ts t [] l in
    let joined : joined_traces (take (t + 1) ts) ≡ joined_traces (take t ts) ++ x = ap (λ (us : List (List Cell)). joined_traces us) more ∙ flat_map-append (λ (u : List Cell). u) (take t ts) (x ∷ []) ∙ ap (λ (cs : List Cell). joined_traces (take t ts) ++ cs) (append-nil x) in
    let at : get_or firsts t 0 ≡ length (joined_traces (take t ts)) = b.firsts_are t l in
    let n1 : length (joined_traces (take (t + 1) ts)) ≡ length (joined_traces (take t ts) ++ x) = ap (λ (cs : List Cell). length cs) joined in
    let n2 : length (joined_traces (take t ts) ++ x) ≡ length (joined_traces (take t ts)) + length x = length-append (joined_traces (take t ts)) x in
    omega arith

pub last_ends : (cells : List Cell) (firsts : List ℕ) (t : ℕ) → Begin firsts (trace_cells cells) → t < length (trace_cells cells) → t + 1 ≡ length firsts
    → length cells ≡ get_or firsts t 0 + length (get_or (trace_cells cells) t [])
last_ends cells firsts t b l e =
    let n : length firsts ≡ length (trace_cells cells) = b.count in
    let whole : take (t + 1) (trace_cells cells) ≡ trace_cells cells = take_all (t + 1) (trace_cells cells) (omega arith) in
    sym (ap (λ (us : List (List Cell)). length (joined_traces us)) whole ∙ ap (λ (cs : List Cell). length cs) (joined_cells_are cells)) ∙ trace_ends cells firsts t b l

pub next_ends : (cells : List Cell) (firsts : List ℕ) (t : ℕ) → Begin firsts (trace_cells cells) → t < length (trace_cells cells) → (t + 1 ≡ length firsts → ⊥) → get_or firsts (t + 1) 0 ≡ get_or firsts t 0 + length (get_or (trace_cells cells) t [])
next_ends cells firsts t b l other =
    let n : length firsts ≡ length (trace_cells cells) = b.count in
    let inside : t + 1 < length (trace_cells cells) =
    elim (cases_lt (t + 1) (length (trace_cells cells))) [ inl m ↦ m | inr m ↦ absurd (other (omega arith)) ] in
    b.firsts_are (t + 1) inside ∙ trace_ends cells firsts t b l

-- the first traces that are asked for, copied
pub record IsCopying (traces : List (List Cell)) (done : ℕ) (copies : List Cell) (starts : List ℕ) : Type 0 where
  pub copies_are : copies ≡ joined_traces (take done traces)
  pub count : length starts ≡ done
  pub starts_are : (t : ℕ) → t < done → get_or starts t 0 ≡ length (joined_traces (take t traces))

start_at : (traces : List (List Cell)) (i : ℕ) (copies : List Cell) (starts : List ℕ) → IsCopying traces i copies starts → (k : ℕ) → k < i + 1 → get_or (starts ++ length copies ∷ []) k 0 ≡ length (joined_traces (take k traces))
start_at traces i copies starts c k l =
    let n : length starts ≡ i = c.count in
    elim (cases_lt k i) [
      | inl m ↦ (let inside : k < length starts = omega arith in get_or_append_left starts (length copies ∷ []) 0 k inside ∙ c.starts_are k m)
      | inr r ↦
          let q : i ≡ k = omega arith in
          get_or_push starts (length copies) 0 k (n ∙ q) ∙ ap (λ (cs : List Cell). length cs) c.copies_are ∙ ap (λ (j : ℕ). length (joined_traces (take j traces))) q
    ]

-- the first traces with one more
joined_more : (traces : List (List Cell)) (i : ℕ) (x : List Cell) → i < length traces → x ≡ get_or traces i [] → joined_traces (take (i + 1) traces) ≡ joined_traces (take i traces) ++ x
joined_more traces i x l e =
    let more : take (i + 1) traces ≡ take i traces ++ x ∷ [] = take_more traces i [] l ∙ ap (λ (t : List Cell). take i traces ++ t ∷ []) (sym e) in
    ap (λ (us : List (List Cell)). joined_traces us) more ∙ flat_map-append (λ (u : List Cell). u) (take i traces) (x ∷ []) ∙ ap (λ (cs : List Cell). joined_traces (take i traces) ++ cs) (append-nil x)

-- one trace more
pub one_more_copied : (traces : List (List Cell)) (i : ℕ) (copies : List Cell) (starts : List ℕ) (x : List Cell) → i < length traces → x ≡ get_or traces i [] → IsCopying traces i copies starts
    → IsCopying traces (i + 1) (copies ++ x) (starts ++ length copies ∷ [])
one_more_copied traces i copies starts x l e c =
    record {
      copies_are = ap (λ (cs : List Cell). cs ++ x) c.copies_are ∙ sym (joined_more traces i x l e);
      count = length_push starts (length copies) ∙ ap (λ n. n + 1) c.count;
      starts_are = λ k b. start_at traces i copies starts c k b;
    }

-- not more than all of them
pub copying-few : (traces : List (List Cell)) (i : ℕ) (copies : List Cell) (starts : List ℕ) → i < length traces → IsCopying traces i copies starts → length copies ≤ length (joined_traces traces)
copying-few traces i copies starts l c =
    let a : length (joined_traces (take i traces)) + length (get_or traces i []) ≤ length (joined_traces traces) = length-flat_map-take (λ (u : List Cell). u) traces i [] l in
    let b : length copies ≡ length (joined_traces (take i traces)) = ap (λ (cs : List Cell). length cs) c.copies_are in
    omega arith

-- the ids of one trace more
pub one_more_named : (traces : List (List Cell)) (i : ℕ) (ids : List ℕ) (x : List Cell) → i < length traces → x ≡ get_or traces i [] → ids ≡ map (λ (c : Cell). c.id) (joined_traces (take i traces))
    → ids ++ map (λ (c : Cell). c.id) x ≡ map (λ (c : Cell). c.id) (joined_traces (take (i + 1) traces))
one_more_named traces i ids x l e named =
    ap (λ (ns : List ℕ). ns ++ map (λ (c : Cell). c.id) x) named
    ∙ sym (map-append (λ (c : Cell). c.id) (joined_traces (take i traces)) x)
    ∙ ap (λ (cs : List Cell). map (λ (c : Cell). c.id) cs) (sym (joined_more traces i x l e))
