-- What is gathered and counted of a log makes a graph.
use Rattle.std.proofs.Common.{◌≡◌, ℕ, ◌<◌, ◌≤◌, true, List, length, take, map, arith, ap, sym, ◌∙◌, subst}
use Rattle.std.proofs.lemmas.List.{length-map, take_all}
use Rattle.std.proofs.lemmas.List.Elements.{All-from_recursion}
use Rattle.std.specs.List.{All, AllByRecursion}
use Rattle.partition_model.specs.Assignments.{Assignment, by_type}
use Rattle.partition_model.specs.Listings.{first_event}
use Rattle.limits.specs.declared.TheConstants.{FIRST_TYPE, MAX_EVENTS, MAX_PARTITIONS}
use Rattle.partition_graph.specs.declared.cells.Cell.{Cell}
use Rattle.partition_graph.specs.declared.tables.Tables.{Tables}
use Rattle.partition_graph.specs.Cells.{traces_of, IsClosed, IsGathered}
use Rattle.partition_graph.specs.Counts.{HasId}
use Rattle.partition_graph.specs.Kept.{IsKept}
use Rattle.partition_graph.specs.Parts.{Parts}
use Rattle.partition_graph.specs.Tables.{IsCountOf}
use Rattle.partition_graph.proofs.CellTraces.{types_are, members_are}
use Rattle.partition_graph.proofs.Edges.{edges_are}
use Rattle.partition_graph.proofs.WordCells.{IsNew, words_new, all_weaker, words_closed, traces_are, first_event_of, new_below, new_typed, named}

-- what is new of each cell
pub gathered_new : (bound t : ℕ) (words : List (List ℕ)) (cells : List Cell) (firsts : List ℕ) → IsGathered bound words t cells firsts → AllByRecursion (IsNew bound) cells
gathered_new bound t words cells firsts g = subst (λ (cs : List Cell). AllByRecursion (IsNew bound) cs) (sym g.cells_are) (words_new bound (take t words) g.numbered)

-- each cell has the id of a partition of events
pub gathered_ids : (bound t : ℕ) (words : List (List ℕ)) (cells : List Cell) (firsts : List ℕ) → bound ≤ MAX_PARTITIONS → IsGathered bound words t cells firsts → All HasId cells
gathered_ids bound t words cells firsts l g =
    All-from_recursion HasId cells
    (all_weaker (IsNew bound) HasId cells (λ c n. let b : c.id < bound = n.1 in (n.0, (let r : c.id < MAX_PARTITIONS = omega arith in r))) (gathered_new bound t words cells firsts g))

-- the traces are the words, each event with its type's number for its id
pub gathered_traces : (bound t : ℕ) (words : List (List ℕ)) (cells : List Cell) (firsts : List ℕ) → t ≡ length words → IsGathered bound words t cells firsts → traces_of cells ≡ by_type words
gathered_traces bound t words cells firsts e g =
    let a : take t words ≡ words = take_all t words (omega arith) in
    ap (λ (cs : List Cell). traces_of cs) g.cells_are ∙ traces_are (take t words) g.some ∙ ap (λ (ws : List (List ℕ)). by_type ws) a

-- the graph of what is gathered and counted
pub kept : (bound t : ℕ) (words : List (List ℕ)) (cells : List Cell) (firsts : List ℕ) (tables : Tables) → t ≡ length words → IsGathered bound words t cells firsts
    → FIRST_TYPE ≤ bound → bound ≤ MAX_PARTITIONS → length cells ≤ MAX_EVENTS → IsCountOf tables cells → IsKept cells firsts tables bound
kept bound t words cells firsts tables e g two limit few n =
    let h : traces_of cells ≡ by_type words = gathered_traces bound t words cells firsts e g in
    let new : AllByRecursion (IsNew bound) cells = gathered_new bound t words cells firsts g in
    let closed : IsClosed true cells = subst (λ (cs : List Cell). IsClosed true cs) (sym g.cells_are) (words_closed (take t words) g.some) in
    record {
      two = two;
      limit = limit;
      few = few;
      closed = closed;
      typed = new_typed bound cells new;
      below = new_below bound cells new;
      first_count = g.count ∙ e ∙ sym (ap (λ (z : Assignment). length z) h ∙ length-map words (λ (w : List ℕ). map named w));
      firsts_are = λ k l. g.firsts_are k (let n : length firsts ≡ t = g.count in let r : k < t = omega arith in r) ∙ first_event_of words k ∙ ap (λ (z : Assignment). first_event z k) (sym h);
      types_are = λ p l. n.types p l ∙ types_are (λ x. x) p cells (all_weaker (IsNew bound) (λ (c : Cell). c.typ ≡ c.id) cells (λ c n. n.2) new);
      sizes_are = λ p l. n.sizes p l ∙ sym (members_are p cells);
      counts_are = λ p q a b. n.counts p q a b ∙ edges_are cells p q closed;
    }

-- two parts with equal traces and as many ids
pub starts : (h g : Assignment) (u v : ℕ) → h ≡ g → u ≡ v → (let a : Parts = record { traces = h; used = u } in let b : Parts = record { traces = g; used = v } in a ≡ b)
starts h g u v e f =
    ap (λ (z : Assignment). let p : Parts = record { traces = z; used = u } in p) e ∙ ap (λ (n : ℕ). let p : Parts = record { traces = g; used = n } in p) f
