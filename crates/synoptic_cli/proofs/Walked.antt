-- The paths of a log's traces through the graph of its model.
use Rattle.std.proofs.Common.{◌≡◌, ◌⊎◌, ℕ, suc, ◌+◌, ◌≤◌, List, [], ◌∷◌, ◌++◌, map, length, take, drop, fold, refl, sym, ap, ap₂, ◌∙◌, subst, inl, inr, length-append}
use Rattle.std.specs.List.{AllByRecursion, list_any}
use Rattle.std.proofs.lemmas.Bool.{cases_Bool, cond-true, cond-false}
use Rattle.std.proofs.lemmas.List.{map-append, length-map}
use Rattle.std.proofs.lemmas.List.Sums.{sum_by-cons}
use Rattle.std.proofs.Math.Seq.{take-append_seam, drop-append_seam}
use Rattle.invariants.specs.declared.Kinds.{Kinds}
use Rattle.traces.specs.Words.{Log, Trace, event_count_of, first_met, with_new}
use Rattle.partition_model.specs.Graphs.{Graph, IsPath, word}
use Rattle.partition_model.specs.Assignments.{Event, Assignment, AllEvents, G, events, id_list, ids_of, inner_words, type_of, types_of, word_of}
use Rattle.partition_model.specs.Laws.{AcceptsTraces, CoarseningKeeps, Keeps, RefinementKeeps}
use Rattle.partition_model.specs.Listings.{parts_of}
use Rattle.partition_model.proofs.Lists.{In, In-append, In-map}
use Rattle.partition_model.proofs.Listing.{In-Contains}
use Rattle.partition_graph.specs.Parts.{inner_words_of}
use Rattle.models.specs.Models.{mined_of, typed_words}
use Rattle.models.specs.Laws.{IsTypedLog}
use Rattle.models.proofs.Valid.{mined-hold}
use Rattle.infer_core.specs.Runs.{AreFinal}
use Rattle.reports.specs.Paths.{TracePath, Taken, PathsTell, paths_of, same_ids, taken, taken_by, trace_path}
use Rattle.synoptic_cli.specs.Commands.PrintPaths.{IsWalked, ShowsPaths, lines, paths}

-- ---- the paths are those of an assignment of the log's words

-- the path of a trace of an assignment
abbrev path_in : List Event → TracePath
path_in trace = trace_path (types_of trace) (ids_of trace)

as-many : (trace : List Event) (events : List ℕ) → types_of trace ≡ events → length events ≡ length (ids_of trace)
as-many trace events same = ap length (sym same) ∙ (length-map trace (λ (e : Event). e.typ) ∙ sym (length-map trace (λ (e : Event). e.id)))

-- the first ids are those of the first trace, and the others follow
next-path : (trace : List Event) (h : Assignment) (types : List ℕ) (traces : List Trace) → types_of trace ≡ types → paths_of traces (parts_of h) ≡ map path_in h
    → trace_path types (take (length types) (ids_of trace ++ parts_of h)) ∷ paths_of traces (drop (length types) (ids_of trace ++ parts_of h)) ≡ path_in trace ∷ map path_in h
next-path trace h types traces same rest =
    rw (as-many trace types same, take-append_seam (ids_of trace) (parts_of h), drop-append_seam (ids_of trace) (parts_of h), rest) (ap (λ (ts : List ℕ). trace_path ts (ids_of trace) ∷ map path_in h) (sym same))

-- the paths of a log's traces, by the ids of an assignment of its words, are those of that assignment
pub paths-in : (traces : List Trace) (h : Assignment) → inner_words h ≡ map (λ trace. trace.events) traces → paths_of traces (parts_of h) ≡ map path_in h
paths-in [] [] same = refl
paths-in [] (trace ∷ h) same = absurd cc
paths-in (x ∷ traces) [] same = absurd cc
paths-in (x ∷ traces) (trace ∷ h) same =
    let here : types_of trace ≡ x.events = cc in
    let there : inner_words h ≡ map (λ (trace : Trace). trace.events) traces = cc in
    ap (λ (ids : List ℕ). paths_of (x ∷ traces) ids) (map-append (λ (e : Event). e.id) trace (events h))
    ∙ next-path trace h x.events traces here (paths-in traces h there)

-- there is an id for each event
pub ids-count : (traces : List Trace) (h : Assignment) → inner_words h ≡ map (λ trace. trace.events) traces → length (parts_of h) ≡ event_count_of traces
ids-count [] [] same = refl
ids-count [] (trace ∷ h) same = absurd cc
ids-count (x ∷ traces) [] same = absurd cc
ids-count (x ∷ traces) (trace ∷ h) same =
    let here : types_of trace ≡ x.events = cc in
    let there : inner_words h ≡ map (λ (trace : Trace). trace.events) traces = cc in
    ap length (map-append (λ (e : Event). e.id) trace (events h))
    ∙ (length-append (ids_of trace) (parts_of h)
    ∙ (ap₂ (λ (a b : ℕ). a + b) (sym (as-many trace x.events here)) (ids-count traces h there) ∙ sym (sum_by-cons (λ (t : Trace). length t.events) x traces)))

paths-count : (traces : List Trace) (ids : List ℕ) → length (paths_of traces ids) ≡ length traces
paths-count [] ids = refl
paths-count (x ∷ traces) ids = ap suc (paths-count traces (drop (length x.events) ids))

-- ---- events of one id have one type

front-all : {X : Type 0} (P : X → Type 0) (xs ys : List X) → AllByRecursion P (xs ++ ys) → AllByRecursion P xs × AllByRecursion P ys
front-all P [] ys all = (tt, all)
front-all P (x ∷ xs) ys all = let rest = front-all P xs ys all.1 in ((all.0, rest.0), rest.1)

one-type : (f : ℕ → ℕ) (trace : List Event) → AllByRecursion (λ e. (2 ≤ e.id) × (e.typ ≡ f e.id)) trace → types_of trace ≡ map f (ids_of trace)
one-type f [] all = refl
one-type f (e ∷ trace) all = ap₂ (λ (t : ℕ) (ts : List ℕ). t ∷ ts) all.0.1 (one-type f trace all.1)

types-of-ids : (f : ℕ → ℕ) (h : Assignment) → AllEvents (λ e. (2 ≤ e.id) × (e.typ ≡ f e.id)) h → (p : TracePath) → In p (map path_in h) → p.types ≡ map f p.ids
types-of-ids f [] all p i = absurd i
types-of-ids f (trace ∷ h) all p (inl e) = subst (λ (q : TracePath). q.types ≡ map f q.ids) e (one-type f trace (front-all (λ (e : Event). (2 ≤ e.id) × (e.typ ≡ f e.id)) trace (events h) all).0)
types-of-ids f (trace ∷ h) all p (inr r) = types-of-ids f h (front-all (λ (e : Event). (2 ≤ e.id) × (e.typ ≡ f e.id)) trace (events h) all).1 p r

-- ---- the path of a line is that of some trace

met-new : (met : List TracePath) (x p : TracePath) → In p (with_new same_ids met x) → In p met ⊎ (x ≡ p)
met-new met x p i =
    elim (cases_Bool (list_any (same_ids x) met)) [
      | inl old ↦ inl (subst (λ (ps : List TracePath). In p ps) (cond-true _ _ _ old) i)
      | inr new ↦ elim (In-append p met (x ∷ []) (subst (λ (ps : List TracePath). In p ps) (cond-false _ _ _ new) i)) [
        | inl before ↦ inl before
        | inr last ↦ elim last [ inl is ↦ inr is | inr none ↦ absurd none ]
      ]
    ]

met-from : (xs met : List TracePath) (p : TracePath) → In p (fold (with_new same_ids) met xs) → In p met ⊎ In p xs
met-from [] met p i = inl i
met-from (x ∷ xs) met p i =
    elim (met-from xs (with_new same_ids met x) p i) [
      | inl before ↦ elim (met-new met x p before) [ inl old ↦ inl old | inr is ↦ inr (inl is) ]
      | inr later ↦ inr (inr later)
    ]

line-path : (xs : List TracePath) (t : Taken) → In t (taken xs) → In t.path xs
unfolding taken
line-path xs t i =
    let from : (p : TracePath) × In p (first_met same_ids xs) × (taken_by xs p ≡ t) = In-map (taken_by xs) t (first_met same_ids xs) i in
    let path : from.0 ≡ t.path = ap (λ (u : Taken). u.path) from.2 in
    subst (λ (p : TracePath). In p xs) path (elim (met-from xs [] from.0 from.1) [ inl none ↦ absurd none | inr there ↦ there ])

-- ---- what is shown

walked : (g : Graph) (h : Assignment) → AllByRecursion (λ trace. IsPath g (id_list trace) × (word g (id_list trace) ≡ word_of trace)) h → AllByRecursion (IsWalked g) (map path_in h)
walked g [] all = tt
walked g (trace ∷ h) all = (all.0, walked g h all.1)

-- where coarsening ends, the assignment keeps the log's words and its mined invariants
pub final-keeps : (kinds : Kinds) (log : Log) (ids : List ℕ) → RefinementKeeps → CoarseningKeeps → IsTypedLog (typed_words kinds log) → (final : AreFinal (typed_words kinds log) ids)
    → Keeps (mined_of (typed_words kinds log)) (inner_words_of log) final.end
final-keeps kinds log ids refinement coarsening typed final =
    let invs = mined_of (typed_words kinds log) in
    let words = inner_words_of log in
    (coarsening invs words final.refined final.merges final.end (refinement invs words (length log.types + 2) final.splits final.refined typed (mined-hold (typed_words kinds log)) final.refines) final.coarsens).0

-- where coarsening ends, there is an id for each event of the log
pub final-count : (kinds : Kinds) (log : Log) (ids : List ℕ) → RefinementKeeps → CoarseningKeeps → IsTypedLog (typed_words kinds log) → AreFinal (typed_words kinds log) ids → length ids ≡ event_count_of log.traces
final-count kinds log ids refinement coarsening typed final =
    ap length final.value ∙ ids-count log.traces final.end (final-keeps kinds log ids refinement coarsening typed final).words_are

-- by the ids where coarsening ends, each trace is shown in one line, as a path of the graph there
pub paths-shown : (kinds : Kinds) (log : Log) (ids : List ℕ) → RefinementKeeps → CoarseningKeeps → AcceptsTraces → PathsTell → IsTypedLog (typed_words kinds log) → (final : AreFinal (typed_words kinds log) ids)
    → ShowsPaths log ids (G final.end)
paths-shown kinds log ids refinement coarsening accepts tell typed final =
    let end : Assignment = final.end in
    let keeps = final-keeps kinds log ids refinement coarsening typed final in
    let are : paths log ids ≡ map path_in end = ap (λ (l : List ℕ). paths_of log.traces l) final.value ∙ paths-in log.traces end keeps.words_are in
    record {
      all = tell.all (paths log ids) ∙ paths-count log.traces ids;
      once = tell.once (paths log ids);
      same = λ t p line path is.
          let first : In t.path (map path_in end) = subst (λ (ps : List TracePath). In t.path ps) are (line-path (paths log ids) t (In-Contains (lines log ids) t line)) in
          let second : In p (map path_in end) = subst (λ (ps : List TracePath). In p ps) are (In-Contains (paths log ids) p path) in
          tell.same (type_of end) t.path p (types-of-ids (type_of end) end keeps.typed t.path first) (types-of-ids (type_of end) end keeps.typed p second) is;
      walked = subst (AllByRecursion (IsWalked (G end))) (sym are) (walked (G end) end (accepts end keeps.typed));
    }
