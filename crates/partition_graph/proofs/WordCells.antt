-- The cells of words, each event with its type's number for its id.
use Rattle.std.proofs.Common.{◌≡◌, ℕ, zero, suc, ◌+◌, ◌<◌, ◌≤◌, Bool, true, false, cond, List, [], ◌∷◌, ◌++◌, length, map, take, get_or, arith, ap, sym, ◌∙◌, refl, subst, inl, inr, length-append}
use Rattle.std.proofs.lemmas.Bool.{cases_lt}
use Rattle.std.proofs.lemmas.List.{length-map, map-append, take-map, take_more, length_push, get_or_push, get_or_append_left, append-nil}
use Rattle.std.proofs.lemmas.List.Concat.{flat_map-append}
use Rattle.std.proofs.lemmas.List.Sums.{sum_by-cons}
use Rattle.std.specs.Option.{IfSome}
use Rattle.traces.specs.Words.{Trace, event_count_of}
use Rattle.std.specs.List.{flat_map, AllByRecursion, slice_get}
use Rattle.partition_model.specs.Assignments.{Event, Assignment, events, by_type, type_of, IsTyped}
use Rattle.partition_model.specs.Listings.{first_event, AreBelow}
use Rattle.partition_model.proofs.Lists.{all_from, all_in}
use Rattle.partition_model.proofs.Naming.{TypedBy, type_known}
use Rattle.partition_graph.specs.declared.cells.Cell.{Cell}
use Rattle.partition_graph.specs.Cells.{event_of, put_before, traces_of, IsClosed, cells_of, inner_cell, IsGathered}
use Rattle.partition_graph.proofs.CellTraces.{events_are}

-- the words of traces
abbrev pub named : ℕ → Event
named t = record { typ = t; id = t }

events_of_word : (w : List ℕ) → map event_of (cells_of w) ≡ map named w
events_of_word [] = refl
events_of_word (n ∷ ns) = ap (λ (es : List Event). named n ∷ es) (events_of_word ns)

-- a word has a cell for each number
pub length-cells_of : (w : List ℕ) → length (cells_of w) ≡ length w
length-cells_of [] = refl
length-cells_of (n ∷ ns) = ap suc (length-cells_of ns)

-- the cells of a word are those of the events before its last one, and that of the last
pub cells_of-last : (ns : List ℕ) (n : ℕ) → cells_of (ns ++ n ∷ []) ≡ map inner_cell ns ++ record { typ = n; last = true; id = n } ∷ []
cells_of-last [] n = refl
cells_of-last (m ∷ []) n = refl
cells_of-last (m ∷ k ∷ ks) n = ap (λ (cs : List Cell). inner_cell m ∷ cs) (cells_of-last (k ∷ ks) n)

-- the cells of a word before others make its trace
trace_of_word : (n : ℕ) (ns : List ℕ) (cs : List Cell) → traces_of (cells_of (n ∷ ns) ++ cs) ≡ map named (n ∷ ns) ∷ traces_of cs
trace_of_word n [] cs = refl
trace_of_word n (m ∷ ms) cs = ap (λ (h : Assignment). put_before (named n) h) (trace_of_word m ms cs)

-- the traces of the cells of words are the words, by type
pub traces_are : (ws : List (List ℕ)) → AllByRecursion (λ (w : List ℕ). 0 < length w) ws → traces_of (flat_map cells_of ws) ≡ by_type ws
traces_are [] a = refl
traces_are ([] ∷ ws) a = let z : 0 < 0 = a.0 in absurd (omega arith)
traces_are ((n ∷ ns) ∷ ws) a =
    trace_of_word n ns (flat_map cells_of ws) ∙ ap (λ (h : Assignment). map named (n ∷ ns) ∷ h) (traces_are ws a.1)

closed_word : (ended : Bool) (n : ℕ) (ns : List ℕ) (cs : List Cell) → IsClosed true cs → IsClosed ended (cells_of (n ∷ ns) ++ cs)
closed_word ended n [] cs k = k
closed_word ended n (m ∷ ms) cs k = closed_word false m ms cs k

-- the cells of words end with the last of a trace
pub words_closed : (ws : List (List ℕ)) → AllByRecursion (λ (w : List ℕ). 0 < length w) ws → IsClosed true (flat_map cells_of ws)
words_closed [] a = refl
words_closed ([] ∷ ws) a = let z : 0 < 0 = a.0 in absurd (omega arith)
words_closed ((n ∷ ns) ∷ ws) a = closed_word true n ns (flat_map cells_of ws) (words_closed ws a.1)

-- the first events
events_of_words : (ws : List (List ℕ)) → events (by_type ws) ≡ map event_of (flat_map cells_of ws)
events_of_words [] = refl
events_of_words (w ∷ ws) =
    let i : events (by_type ws) ≡ map event_of (flat_map cells_of ws) = events_of_words ws in
    ap (λ (es : List Event). map named w ++ es) i
    ∙ ap (λ (es : List Event). es ++ map event_of (flat_map cells_of ws)) (sym (events_of_word w))
    ∙ sym (map-append event_of (cells_of w) (flat_map cells_of ws))

-- the first event of a trace stands behind the cells of the words before it
pub first_event_of : (ws : List (List ℕ)) (t : ℕ) → length (flat_map cells_of (take t ws)) ≡ first_event (by_type ws) t
first_event_of ws t =
    let a : take t (by_type ws) ≡ by_type (take t ws) = take-map (λ (w : List ℕ). map named w) t ws in
    let b : length (events (by_type (take t ws))) ≡ length (map event_of (flat_map cells_of (take t ws))) = ap (λ (es : List Event). length es) (events_of_words (take t ws)) in
    let c : length (map event_of (flat_map cells_of (take t ws))) ≡ length (flat_map cells_of (take t ws)) = length-map (flat_map cells_of (take t ws)) event_of in
    sym (ap (λ (h : Assignment). length (events h)) a ∙ b ∙ c)

-- what holds of each number holds of each cell
abbrev pub IsNew : ℕ → Cell → Type 0
IsNew bound c = (2 ≤ c.id) × (c.id < bound) × (c.typ ≡ c.id)

-- what holds of the elements of two lists holds of both together
pub all_append : {X : Type 0} (P : X → Type 0) (xs ys : List X) → AllByRecursion P xs → AllByRecursion P ys → AllByRecursion P (xs ++ ys)
all_append P [] ys a b = b
all_append P (x ∷ xs) ys a b = (a.0, all_append P xs ys a.1 b)

pub new_word : (bound : ℕ) (w : List ℕ) → AllByRecursion (λ n. (2 ≤ n) × (n < bound)) w → AllByRecursion (IsNew bound) (cells_of w)
new_word bound [] a = tt
new_word bound (n ∷ ns) a = ((a.0.0, a.0.1, refl), new_word bound ns a.1)

-- what holds of each number of the words holds of each cell
pub words_new : (bound : ℕ) (ws : List (List ℕ)) → AllByRecursion (λ (w : List ℕ). AllByRecursion (λ n. (2 ≤ n) × (n < bound)) w) ws → AllByRecursion (IsNew bound) (flat_map cells_of ws)
words_new bound [] a = tt
words_new bound (w ∷ ws) a = all_append (IsNew bound) (cells_of w) (flat_map cells_of ws) (new_word bound w a.0) (words_new bound ws a.1)

-- what follows from a fact of each element holds of each element
pub all_weaker : {X : Type 0} (P Q : X → Type 0) (xs : List X) → ((x : X) → P x → Q x) → AllByRecursion P xs → AllByRecursion Q xs
all_weaker P Q [] f a = tt
all_weaker P Q (x ∷ xs) f a = (f x a.0, all_weaker P Q xs f a.1)

mapped : (P : Event → Type 0) (cs : List Cell) → AllByRecursion (λ (c : Cell). P (event_of c)) cs → AllByRecursion P (map event_of cs)
mapped P [] a = tt
mapped P (c ∷ cs) a = (a.0, mapped P cs a.1)

-- what holds of the events of cells holds of those of their traces
pub all_events : (P : Event → Type 0) (cs : List Cell) → AllByRecursion (λ (c : Cell). P (event_of c)) cs → AllByRecursion P (events (traces_of cs))
all_events P cs a = subst (λ (es : List Event). AllByRecursion P es) (sym (events_are cs)) (mapped P cs a)

-- the ids of cells of words are below the bound of the numbers
pub new_below : (bound : ℕ) (cs : List Cell) → AllByRecursion (IsNew bound) cs → AreBelow bound (traces_of cs)
new_below bound cs a = all_events (λ (e : Event). e.id < bound) cs (all_weaker (IsNew bound) (λ (c : Cell). c.id < bound) cs (λ c n. n.1) a)

new_typed_by : (bound : ℕ) (cs : List Cell) → AllByRecursion (IsNew bound) cs → TypedBy (λ x. x) (traces_of cs)
new_typed_by bound cs a = all_events (λ (e : Event). (2 ≤ e.id) × (e.typ ≡ e.id)) cs (all_weaker (IsNew bound) (λ (c : Cell). (2 ≤ c.id) × (c.typ ≡ c.id)) cs (λ c n. (n.0, n.2)) a)

-- the events of cells of words have one type for each id
pub new_typed : (bound : ℕ) (cs : List Cell) → AllByRecursion (IsNew bound) cs → IsTyped (traces_of cs)
new_typed bound cs a =
    let t : TypedBy (λ x. x) (traces_of cs) = new_typed_by bound cs a in
    all_from (λ (e : Event). (2 ≤ e.id) × (e.typ ≡ type_of (traces_of cs) e.id)) (events (traces_of cs)) (λ e i.
    let k : (2 ≤ e.id) × (e.typ ≡ e.id) = all_in (λ (e : Event). (2 ≤ e.id) × (e.typ ≡ e.id)) e (events (traces_of cs)) t i in
    (k.0, k.1 ∙ sym (type_known (λ x. x) (traces_of cs) t e i)))

-- not more traces than cells
length-put_before : (e : Event) (h : Assignment) → length (put_before e h) ≤ suc (length h)
length-put_before e [] = omega arith
length-put_before e (t ∷ h) = omega arith

-- there are at most as many traces as cells
pub traces-le : (cs : List Cell) → length (traces_of cs) ≤ length cs
traces-le [] = omega arith
traces-le (c ∷ cs) =
    let i : length (traces_of cs) ≤ length cs = traces-le cs in
    let p : length (put_before (event_of c) (traces_of cs)) ≤ suc (length (traces_of cs)) = length-put_before (event_of c) (traces_of cs) in
    elim c.last as (λ b. length (cond b ((event_of c ∷ []) ∷ traces_of cs) (put_before (event_of c) (traces_of cs))) ≤ suc (length cs)) [ true ↦ omega arith | false ↦ omega arith ]

first_at : (bound : ℕ) (words : List (List ℕ)) (t : ℕ) (cells : List Cell) (firsts : List ℕ) → IsGathered bound words t cells firsts → (k : ℕ) → k < t + 1 → get_or (firsts ++ length cells ∷ []) k 0 ≡ length (flat_map cells_of (take k words))
first_at bound words t cells firsts g k b =
    let n : length firsts ≡ t = g.count in
    elim (cases_lt k t) [
      | inl l ↦ (let m : k < length firsts = omega arith in get_or_append_left firsts (length cells ∷ []) 0 k m ∙ g.firsts_are k l)
      | inr r ↦
          let q : t ≡ k = omega arith in
          get_or_push firsts (length cells) 0 k (g.count ∙ q) ∙ ap (λ (cs : List Cell). length cs) g.cells_are ∙ ap (λ (j : ℕ). length (flat_map cells_of (take j words))) q
    ]

-- the cells of one word more behind the others
pub more_gathered : (bound : ℕ) (words : List (List ℕ)) (t : ℕ) (cells : List Cell) (firsts : List ℕ) (w : List ℕ) → t < length words → get_or words t [] ≡ w → 0 < length w
    → AllByRecursion (λ n. (2 ≤ n) × (n < bound)) w → IsGathered bound words t cells firsts → IsGathered bound words (t + 1) (cells ++ cells_of w) (firsts ++ length cells ∷ [])
more_gathered bound words t cells firsts w l e some numbers g =
    let m : take (t + 1) words ≡ take t words ++ w ∷ [] = take_more words t [] l ∙ ap (λ (z : List ℕ). take t words ++ z ∷ []) e in
    let f : flat_map cells_of (take (t + 1) words) ≡ flat_map cells_of (take t words) ++ cells_of w =
    ap (λ (ws : List (List ℕ)). flat_map cells_of ws) m ∙ flat_map-append cells_of (take t words) (w ∷ []) ∙ ap (λ (cs : List Cell). flat_map cells_of (take t words) ++ cs) (append-nil (cells_of w)) in
    record {
      cells_are = ap (λ (cs : List Cell). cs ++ cells_of w) g.cells_are ∙ sym f;
      count = length_push firsts (length cells) ∙ ap (λ n. n + 1) g.count;
      firsts_are = λ k b. first_at bound words t cells firsts g k b;
      some = subst (λ (ws : List (List ℕ)). AllByRecursion (λ (w : List ℕ). 0 < length w) ws) (sym m) (all_append (λ (w : List ℕ). 0 < length w) (take t words) (w ∷ []) g.some (some, tt));
      numbered =
          subst (λ (ws : List (List ℕ)). AllByRecursion (λ (w : List ℕ). AllByRecursion (λ n. (2 ≤ n) × (n < bound)) w) ws) (sym m)
          (all_append (λ (w : List ℕ). AllByRecursion (λ n. (2 ≤ n) × (n < bound)) w) (take t words) (w ∷ []) g.numbered (numbers, tt));
    }

-- the words of a log's traces
pub cells-le : (traces : List Trace) (t : ℕ) → length (flat_map cells_of (take t (map (λ (trace : Trace). trace.events) traces))) ≤ event_count_of traces
cells-le traces zero = omega arith
cells-le [] (suc t) = omega arith
cells-le (x ∷ xs) (suc t) =
    let i : length (flat_map cells_of (take t (map (λ (trace : Trace). trace.events) xs))) ≤ event_count_of xs = cells-le xs t in
    let a : length (cells_of x.events ++ flat_map cells_of (take t (map (λ (trace : Trace). trace.events) xs))) ≡ length (cells_of x.events) + length (flat_map cells_of (take t (map (λ (trace : Trace). trace.events) xs))) =
    length-append (cells_of x.events) (flat_map cells_of (take t (map (λ (trace : Trace). trace.events) xs))) in
    let b : length (cells_of x.events) ≡ length x.events = length-cells_of x.events in
    let s : event_count_of (x ∷ xs) ≡ length x.events + event_count_of xs = sum_by-cons (λ (trace : Trace). length trace.events) x xs in
    omega arith

-- the word of a trace
pub word_at : (traces : List Trace) (t : ℕ) (w : List ℕ) → t < length traces → IfSome (slice_get traces t) (λ (trace : Trace). w ≡ trace.events) → get_or (map (λ (trace : Trace). trace.events) traces) t [] ≡ w
word_at [] t w l s = absurd (omega arith)
word_at (x ∷ xs) zero w l s = sym s
word_at (x ∷ xs) (suc t) w l s = word_at xs t w (let k : t < length xs = omega arith in k) s
