-- The graph of a log's first assignment shows the log.
use Rattle.std.proofs.Common.{◌≡◌, ℕ, ◌≤◌, List, [], ◌∷◌, ◌++◌, map, refl, ap, ap₂, ◌∙◌, subst}
use Rattle.std.specs.List.{AllByRecursion}
use Rattle.traces.specs.Words.{Log, Trace}
use Rattle.traces.specs.Words as logs
use Rattle.invariants.specs.declared.records.Partition.{Partition}
use Rattle.invariants.specs.declared.records.Edge.{Edge}
use Rattle.partition_model.specs.Graphs.{Graph, Accepts, IsPath, word}
use Rattle.partition_model.specs.Assignments.{Event, Assignment, AllEvents, G, IsTyped, by_type, events, id_list, types_of, with_ends, word_of}
use Rattle.partition_model.specs.Laws.{AcceptsTraces, GraphsAreFormed}
use Rattle.partition_model.specs.Listings.{AreBelow, ListingsTell, partitions_below, edges_below}
use Rattle.partition_graph.specs.Parts.{Parts, start_of, inner_words_of}
use Rattle.reports.specs.Reports.{graph_report}
use Rattle.synoptic_cli.specs.Commands.PrintGraph.{ShowsExactly, parts_report}
use Rattle.synoptic_cli.proofs.Found.{ends-found, names-found}

-- the events of a word, each with its type's number as its id
abbrev events_by_type : List ℕ → List Event
events_by_type w = map (λ t. record { typ = t; id = t }) w

types-by_type : (w : List ℕ) → types_of (events_by_type w) ≡ w
types-by_type [] = refl
types-by_type (t ∷ ts) = ap (λ l. t ∷ l) (types-by_type ts)

-- the words of the assignment are those of the log
words-by_type : (traces : List Trace) → map word_of (by_type (map (λ trace. trace.events) traces)) ≡ map logs.word_of traces
words-by_type [] = refl
words-by_type (trace ∷ traces) = ap₂ (λ (w : List ℕ) (ws : List (List ℕ)). w ∷ ws) (ap with_ends (types-by_type trace.events)) (words-by_type traces)

all-append : {X : Type 0} (P : X → Type 0) (xs ys : List X) → AllByRecursion P xs → AllByRecursion P ys → AllByRecursion P (xs ++ ys)
all-append P [] ys a b = b
all-append P (x ∷ xs) ys a b = (a.0, all-append P xs ys a.1 b)

same-by_type : (w : List ℕ) → AllByRecursion (λ (e : Event). e.id ≡ e.typ) (events_by_type w)
same-by_type [] = tt
same-by_type (t ∷ ts) = (refl, same-by_type ts)

all-by_type : (ws : List (List ℕ)) → AllEvents (λ e. e.id ≡ e.typ) (by_type ws)
all-by_type [] = tt
all-by_type (w ∷ ws) = all-append (λ (e : Event). e.id ≡ e.typ) (events_by_type w) (events (by_type ws)) (same-by_type w) (all-by_type ws)

-- each trace's list of ids is a path, so each word is accepted
accepted : (g : Graph) (h : Assignment) → AllByRecursion (λ trace. IsPath g (id_list trace) × (word g (id_list trace) ≡ word_of trace)) h → AllByRecursion (Accepts g) (map word_of h)
accepted g [] all = tt
accepted g (trace ∷ traces) all = ((id_list trace, all.0.0, all.0.1), accepted g traces all.1)

-- the graph of the first assignment of a log shows exactly what there is
pub graph-shown : (log : Log) → AcceptsTraces → ListingsTell → GraphsAreFormed → IsTyped (start_of log).traces → 2 ≤ (start_of log).used → AreBelow (start_of log).used (start_of log).traces → ShowsExactly log
graph-shown log accepts tell formed typed two below =
    let h : Assignment = (start_of log).traces in
    let words = words-by_type log.traces in
    let listed = tell h (start_of log).used two below in
    let same = all-by_type (inner_words_of log) in
    record {
      words = words;
      by_type = same;
      partitions = listed.0;
      edges = listed.1;
      accepted = subst (AllByRecursion (Accepts (G h))) words (accepted (G h) h (accepts h typed));
      ends = ends-found h (partitions_below (start_of log).used h) (edges_below (start_of log).used h) formed typed listed.0 listed.1;
      named = names-found log.types h (partitions_below (start_of log).used h) same below listed.0;
    }

-- the text of the lists of the first assignment is that of the log's graph
pub graph-text : (log : Log) (types : List (List ℕ)) (partitions : List Partition) (edges : List Edge) (text : List ℕ) → types ≡ log.types
    → partitions ≡ partitions_below (start_of log).used (start_of log).traces → edges ≡ edges_below (start_of log).used (start_of log).traces
    → text ≡ graph_report types partitions edges → text ≡ parts_report log.types (start_of log)
graph-text log types partitions edges text same-types listed-partitions listed-edges same =
    same
    ∙ (ap (λ (l : List (List ℕ)). graph_report l partitions edges) same-types
    ∙ ap₂ (λ (ps : List Partition) (es : List Edge). graph_report log.types ps es) listed-partitions listed-edges)
