-- Words that are counted one after another.
use Rattle.std.proofs.Common.{◌≡◌, ℕ, zero, suc, ◌+◌, ◌<◌, ◌≤◌, ◌==◌, Bool, true, false, cond, List, [], ◌∷◌, ◌++◌, length, take, drop, get_or, arith, ap, sym, ◌∙◌, refl, subst, inl, inr, eq-eqb, ne_eqb}
use Rattle.std.proofs.lemmas.Bool.{cases_eq}
use Rattle.std.proofs.lemmas.List.Elements.{All-from_recursion, All-get_or}
use Rattle.std.specs.List.{All, AllByRecursion, flat_map}
use Rattle.limits.specs.declared.TheConstants.{INITIAL, FIRST_TYPE, MAX_EVENTS, MAX_PARTITIONS}
use Rattle.partition_model.specs.Assignments.{Assignment, by_type, IsTyped}
use Rattle.partition_model.specs.Listings.{AreBelow}
use Rattle.partition_graph.specs.declared.cells.Cell.{Cell}
use Rattle.partition_graph.specs.declared.tables.Tables.{Tables}
use Rattle.partition_graph.specs.Cells.{cells_of, traces_of, IsClosed, IsGathered}
use Rattle.partition_graph.specs.Counts.{HasId, before_next, cells_with, edges_along, last_type}
use Rattle.partition_graph.specs.Kept.{IsKept}
use Rattle.partition_graph.specs.Tables.{HasRoomFor, IsClear, IsCountedFor, IsCountMore, IsCountOf}
use Rattle.partition_graph.proofs.Begun.{nothing_gathered}
use Rattle.partition_graph.proofs.CellTraces.{cells_with-le}
use Rattle.partition_graph.proofs.Counting.{rest-cons}
use Rattle.partition_graph.proofs.Edges.{edges_along-le}
use Rattle.partition_graph.proofs.Gathered.{gathered_new, gathered_traces, kept}
use Rattle.partition_graph.proofs.WordCells.{all_weaker, length-cells_of, more_gathered, new_word, words_closed, IsNew}

last-more : (i n : ℕ) → (suc i + 1 == suc n) ≡ (i + 1 == n)
last-more i n =
    elim (cases_eq (i + 1) n) [
      | inl e ↦ eq-eqb (suc i + 1) (suc n) (omega (arith, e)) ∙ sym (eq-eqb (i + 1) n e)
      | inr d ↦ ne_eqb (suc i + 1) (suc n) (λ e. d (omega (arith, e))) ∙ sym (ne_eqb (i + 1) n d)
    ]

-- the cell of a word's event
pub cell-at : (w : List ℕ) (i : ℕ) (d : Cell) → i < length w → (let c : Cell = record { typ = get_or w i 0; last = i + 1 == length w; id = get_or w i 0 } in get_or (cells_of w) i d ≡ c)
cell-at [] i d l = absurd (omega (arith, l))
cell-at (n ∷ []) zero d l = refl
cell-at (n ∷ (m ∷ ms)) zero d l =
    ap (λ (b : Bool). let c : Cell = record { typ = n; last = b; id = n } in c) (sym (ne_eqb 1 (suc (suc (length ms))) (λ e. omega (arith, e))))
cell-at (n ∷ ns) (suc i) d l =
    cell-at ns i d (omega (arith, l)) ∙ ap (λ (b : Bool). let c : Cell = record { typ = get_or ns i 0; last = b; id = get_or ns i 0 } in c) (sym (last-more i (length ns)))

none : Cell
none = record { typ = 0; last = false; id = 0 }

-- the cells of a word from a place on begin with that of the event there
pub word-rest : (w : List ℕ) (i : ℕ) (x : Cell) → i < length w → (let c : Cell = record { typ = get_or w i 0; last = i + 1 == length w; id = get_or w i 0 } in x ≡ c)
    → drop i (cells_of w) ≡ x ∷ drop (i + 1) (cells_of w)
word-rest w i x l is =
    rest-cons (cells_of w) i none (omega (arith, l, length-cells_of w)) ∙ ap (λ (c : Cell). c ∷ drop (i + 1) (cells_of w)) (cell-at w i none l ∙ sym is)

-- the event at a place has an id of partitions of events
pub word-id : (w : List ℕ) (i : ℕ) (x : Cell) → i < length w → All HasId (cells_of w) → (let c : Cell = record { typ = get_or w i 0; last = i + 1 == length w; id = get_or w i 0 } in x ≡ c)
    → x.id < MAX_PARTITIONS
word-id w i x l ids is =
    subst (λ (c : Cell). c.id < MAX_PARTITIONS) (cell-at w i none l ∙ sym is) (All-get_or HasId (cells_of w) i none (omega (arith, l, length-cells_of w)) ids).1

-- what is counted of two lists of cells
pub last_type-append : (p typ : ℕ) (cs ds : List Cell) → last_type p typ (cs ++ ds) ≡ last_type p (last_type p typ cs) ds
last_type-append p typ [] ds = refl
last_type-append p typ (c ∷ cs) ds = last_type-append p (cond (c.id == p) c.typ typ) cs ds

pub cells_with-append : (p : ℕ) (cs ds : List Cell) → cells_with p (cs ++ ds) ≡ cells_with p cs + cells_with p ds
cells_with-append p [] ds = omega arith
cells_with-append p (c ∷ cs) ds = let i = cells_with-append p cs ds in omega (arith, i)

starts-again : (c : Cell) → c.last ≡ true → before_next c ≡ INITIAL
starts-again c t = rw t refl

-- the edges along cells that end with the last of a trace, and along others
pub edges_along-append : (b : ℕ) (ended : Bool) (cs ds : List Cell) (p q : ℕ) → IsClosed ended cs → (ended ≡ true → b ≡ INITIAL)
    → edges_along b (cs ++ ds) p q ≡ edges_along b cs p q + edges_along INITIAL ds p q
edges_along-append b ended [] ds p q closed start = let e = ap (λ n. edges_along n ds p q) (start closed) in omega (arith, e)
edges_along-append b ended (c ∷ cs) ds p q closed start =
    let i = edges_along-append (before_next c) c.last cs ds p q closed (starts-again c) in omega (arith, i)

-- the cells of one more word are counted
pub counted-more : (old new : Tables) (cs ds : List Cell) → IsClosed true cs → IsCountOf old cs → IsCountMore old new ds → IsCountOf new (cs ++ ds)
counted-more old new cs ds closed count more =
    record {
      types = λ p l. more.types p l ∙ ap (λ n. last_type p n ds) (count.types p l) ∙ sym (last_type-append p 0 cs ds);
      sizes = λ p l. omega (arith, more.sizes p l, count.sizes p l, cells_with-append p cs ds);
      counts = λ p q l m. omega (arith, more.counts p q l m, count.counts p q l m, edges_along-append INITIAL true cs ds p q closed (λ e. refl));
    }

-- the tables count the first words
pub record IsCountedTo (bound : ℕ) (words : List (List ℕ)) (t : ℕ) (tables : Tables) : Type 0 where
  pub cells : List Cell
  pub firsts : List ℕ
  pub gathered : IsGathered bound words t cells firsts
  pub counted : IsCountOf tables cells

-- nothing is counted yet
pub counted_none : (bound : ℕ) (words : List (List ℕ)) (tables : Tables) → IsClear tables → IsCountedTo bound words 0 tables
counted_none bound words tables clear =
    record {
      cells = [];
      firsts = [];
      gathered = nothing_gathered bound words [] [] refl refl;
      counted = record { types = λ p l. clear.types p l; sizes = λ p l. clear.sizes p l; counts = λ p q l m. clear.counts p q l m };
    }

gathered_closed : (bound t : ℕ) (words : List (List ℕ)) (cells : List Cell) (firsts : List ℕ) → IsGathered bound words t cells firsts → IsClosed true cells
gathered_closed bound t words cells firsts g = subst (λ (cs : List Cell). IsClosed true cs) (sym g.cells_are) (words_closed (take t words) g.some)

-- one more word is counted
pub counted_more_words : (bound : ℕ) (words : List (List ℕ)) (t : ℕ) (old new : Tables) (w : List ℕ) → t < length words → get_or words t [] ≡ w → 0 < length w
    → AllByRecursion (λ n. (2 ≤ n) × (n < bound)) w → IsCountedTo bound words t old → IsCountMore old new (cells_of w) → IsCountedTo bound words (t + 1) new
counted_more_words bound words t old new w l e some numbers k more =
    record {
      cells = k.cells ++ cells_of w;
      firsts = k.firsts ++ length k.cells ∷ [];
      gathered = more_gathered bound words t k.cells k.firsts w l e some numbers k.gathered;
      counted = counted-more old new k.cells (cells_of w) (gathered_closed bound t words k.cells k.firsts k.gathered) k.counted more;
    }

-- the cells of a word have ids of partitions of events
pub word_ids : (bound : ℕ) (w : List ℕ) → bound ≤ MAX_PARTITIONS → AllByRecursion (λ n. (2 ≤ n) × (n < bound)) w → All HasId (cells_of w)
word_ids bound w l numbers =
    All-from_recursion HasId (cells_of w)
    (all_weaker (IsNew bound) HasId (cells_of w) (λ c n. let b : c.id < bound = n.1 in (n.0, (let r : c.id < MAX_PARTITIONS = omega (arith, b, l) in r))) (new_word bound w numbers))

-- there is room to count one more word
pub room_for_word : (bound : ℕ) (words : List (List ℕ)) (t : ℕ) (old : Tables) (w : List ℕ) → t < length words → get_or words t [] ≡ w → 0 < length w
    → AllByRecursion (λ n. (2 ≤ n) × (n < bound)) w → length (flat_map cells_of (take (t + 1) words)) ≤ MAX_EVENTS → IsCountedTo bound words t old → HasRoomFor old (cells_of w)
room_for_word bound words t old w l e some numbers few k =
    let all : List Cell = k.cells ++ cells_of w in
    let g : IsGathered bound words (t + 1) all (k.firsts ++ length k.cells ∷ []) = more_gathered bound words t k.cells k.firsts w l e some numbers k.gathered in
    let long : length all ≤ MAX_EVENTS = subst (λ (cs : List Cell). length cs ≤ MAX_EVENTS) (sym g.cells_are) few in
    let new : AllByRecursion (IsNew bound) all = gathered_new bound (t + 1) words all (k.firsts ++ length k.cells ∷ []) g in
    let two : AllByRecursion (λ (x : Cell). FIRST_TYPE ≤ x.id) all = all_weaker (IsNew bound) (λ (x : Cell). FIRST_TYPE ≤ x.id) all (λ x n. n.0) new in
    let closed : IsClosed true k.cells = gathered_closed bound t words k.cells k.firsts k.gathered in
    record {
      sizes = λ p m. omega (arith, long, k.counted.sizes p m, cells_with-append p k.cells (cells_of w), cells_with-le p all);
      counts = λ p q m n.
          omega (arith, long, k.counted.counts p q m n, edges_along-append INITIAL true k.cells (cells_of w) p q closed (λ e. refl), edges_along-le INITIAL all p q two);
    }

-- the graph of all words, if all are counted
pub words_kept : (bound : ℕ) (words : List (List ℕ)) (t : ℕ) (tables : Tables) → t ≡ length words → FIRST_TYPE ≤ bound → bound ≤ MAX_PARTITIONS
    → length (flat_map cells_of (take t words)) ≤ MAX_EVENTS → (k : IsCountedTo bound words t tables) → IsKept k.cells k.firsts tables bound
words_kept bound words t tables e two limit few k =
    kept bound t words k.cells k.firsts tables e k.gathered two limit (subst (λ (cs : List Cell). length cs ≤ MAX_EVENTS) (sym k.gathered.cells_are) few) k.counted

-- what is kept of cells is counted for their traces
pub kept-counted : (cells : List Cell) (firsts : List ℕ) (tables : Tables) (used n : ℕ) → n ≡ length (traces_of cells) → IsKept cells firsts tables used → IsCountedFor tables n (traces_of cells)
kept-counted cells firsts tables used n e k = record { traces_are = e; types_are = k.types_are; sizes_are = k.sizes_are; counts_are = k.counts_are }

-- the tables count the words, each event with its type's number for its id
pub words_counted : (bound : ℕ) (words : List (List ℕ)) (t : ℕ) (tables : Tables) → t ≡ length words → FIRST_TYPE ≤ bound → bound ≤ MAX_PARTITIONS
    → length (flat_map cells_of (take t words)) ≤ MAX_EVENTS → IsCountedTo bound words t tables
    → IsCountedFor tables t (by_type words) × IsTyped (by_type words) × AreBelow bound (by_type words)
words_counted bound words t tables e two limit few k =
    let same : traces_of k.cells ≡ by_type words = gathered_traces bound t words k.cells k.firsts e k.gathered in
    let all : IsKept k.cells k.firsts tables bound = words_kept bound words t tables e two limit few k in (
      subst (λ (h : Assignment). IsCountedFor tables t h) same (kept-counted k.cells k.firsts tables bound t (sym k.gathered.count ∙ all.first_count) all),
      subst IsTyped same all.typed,
      subst (λ (h : Assignment). AreBelow bound h) same all.below,
    )
