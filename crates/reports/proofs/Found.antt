-- Lists of partitions and of edges, one more at a time.
use Rattle.std.proofs.Common.{◌≡◌, ◌==◌, ℕ, ◌+◌, ◌<◌, List, [], ◌∷◌, ◌++◌, length, get_or, take, sym, ap, add-one, append-nil, ◌∙◌, Option, Some, None, if◌then◌else◌}
use Rattle.std.specs.Option.{option_or}
use Rattle.std.specs.Ordering.{nat_cmp}
use Rattle.std.specs.BTreeMap.{BTreeMap, get_by}
use Rattle.std.proofs.Math.Seq.{take-suc}
use Rattle.std.proofs.lemmas.List.Folds.{find-append}
use Rattle.std.proofs.lemmas.Grind.{flat_map-append}
use Rattle.invariants.specs.declared.records.Partition.{Partition}
use Rattle.invariants.specs.declared.records.Edge.{Edge}
use Rattle.reports.specs.Reports.{partition_with, edge_text, edge_line, graph_report}

-- in a list with one partition more, this one is found where none before it has the id
pub partition_with-next : (ps : List Partition) (p : Partition) (id : ℕ)
    → partition_with (ps ++ p ∷ []) id ≡ option_or (partition_with ps id) (if p.id == id then Some p else None)
partition_with-next ps p id = find-append (λ q. q.id == id) ps (p ∷ [])

-- the line of an edge is the same where its partitions are found in the map as in the list
pub line-found : (types : List (List ℕ)) (ps : List Partition) (places : BTreeMap ℕ Partition) (e : Edge)
    → ((id : ℕ) → get_by (nat_cmp id) places ≡ partition_with ps id)
    → edge_text types e (get_by (nat_cmp e.from) places) (get_by (nat_cmp e.to) places) ≡ edge_line types ps e
line-found types ps places e found =
    ap (λ (from : Option Partition). edge_text types e from (get_by (nat_cmp e.to) places)) (found e.from)
    ∙ ap (λ (to : Option Partition). edge_text types e (partition_with ps e.from) to) (found e.to)

-- a front with one more
take-more : {X : Type 0} (xs : List X) (i : ℕ) (d : X) → i < length xs → take (i + 1) xs ≡ take i xs ++ get_or xs i d ∷ []
take-more xs i d inside = ap (λ n. take n xs) (add-one i) ∙ take-suc xs i d inside

-- the lines of a list with one more
report-next : (types : List (List ℕ)) (ps : List Partition) (es : List Edge) (e : Edge) → graph_report types ps (es ++ e ∷ []) ≡ graph_report types ps es ++ edge_line types ps e
report-next types ps es e = flat_map-append (edge_line types ps) es (e ∷ []) ∙ ap (λ text. graph_report types ps es ++ text) (append-nil (edge_line types ps e))

-- with one partition more noted, what is found is what the list up to it has
pub found-more : (ps : List Partition) (i : ℕ) (d : Partition) (id : ℕ) (old new : Option Partition) → i < length ps
    → old ≡ partition_with (take i ps) id
    → new ≡ option_or old (if (get_or ps i d).id == id then Some (get_or ps i d) else None)
    → new ≡ partition_with (take (i + 1) ps) id
found-more ps i d id old new inside before noted =
    noted
    ∙ (ap (λ (o : Option Partition). option_or o (if (get_or ps i d).id == id then Some (get_or ps i d) else None)) before
    ∙ (sym (partition_with-next (take i ps) (get_or ps i d) id) ∙ ap (λ xs. partition_with xs id) (sym (take-more ps i d inside))))

-- with one line more, the text has the lines of the edges up to it
pub lines-more : (types : List (List ℕ)) (ps : List Partition) (places : BTreeMap ℕ Partition) (es : List Edge) (i : ℕ) (d : Edge) (old new : List ℕ) → i < length es
    → ((id : ℕ) → get_by (nat_cmp id) places ≡ partition_with ps id)
    → old ≡ graph_report types ps (take i es)
    → new ≡ old ++ edge_text types (get_or es i d) (get_by (nat_cmp (get_or es i d).from) places) (get_by (nat_cmp (get_or es i d).to) places)
    → new ≡ graph_report types ps (take (i + 1) es)
lines-more types ps places es i d old new inside found before put =
    put
    ∙ (ap (λ text. old ++ text) (line-found types ps places (get_or es i d) found)
    ∙ (ap (λ text. text ++ edge_line types ps (get_or es i d)) before
    ∙ (sym (report-next types ps (take i es) (get_or es i d)) ∙ ap (graph_report types ps) (sym (take-more es i d inside)))))
