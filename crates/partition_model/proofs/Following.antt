-- A trace's list of ids is a path.
use Rattle.std.proofs.Common.{◌≡◌, ℕ, ◌<◌, ◌≤◌, ◌==◌, true, List, [], ◌∷◌, ◌++◌, map, sym, refl, ap, ap₂, subst, inl, inr, arith, eq-eqb}
use Rattle.invariants.specs.Holds.{Holds}
use Rattle.partition_model.specs.Graphs.{Graph, Walk, IsPath, word}
use Rattle.partition_model.specs.Assignments.{Event, Assignment, events, G, IsTyped, id_list, ids_of, types_of, word_of, pairs, type_of}
use Rattle.partition_model.specs.Laws.{AcceptsTraces, TracesBreakNone}
use Rattle.partition_model.proofs.Lists.{In, In-events, all_in, all_from, In-edge}

-- a list along which each pair of neighbours is an edge is a walk
walk_along : (g : Graph) (xs : List Event) (p : ℕ) → ((u v : ℕ) → 0 < pairs u v (p ∷ (ids_of xs ++ 1 ∷ [])) → g.edge u v ≡ true) → Walk g p (ids_of xs ++ 1 ∷ []) 1
walk_along g [] p f =
    (f p 1 (let a : (p == p) ≡ true = eq-eqb p p refl in rw a (omega arith)), refl)
walk_along g (e ∷ es) p f = (
  f p e.id (let a : (p == p) ≡ true = eq-eqb p p refl in let b : (e.id == e.id) ≡ true = eq-eqb e.id e.id refl in rw (a, b) (omega arith)),
  walk_along g es e.id (λ u v k. f u v (omega (arith, k))),
)

-- the types of a trace's ids are those of its events
types_along : (h : Assignment) → IsTyped h → (xs : List Event) → ((e : Event) → In e xs → In e (events h)) → map (λ p. type_of h p) (ids_of xs ++ 1 ∷ []) ≡ types_of xs ++ 1 ∷ []
types_along h t [] f = refl
types_along h t (e ∷ es) f =
    let a : (2 ≤ e.id) × (e.typ ≡ type_of h e.id) = all_in (λ e. (2 ≤ e.id) × (e.typ ≡ type_of h e.id)) e (events h) t (f e (inl refl)) in
    ap₂ (λ (x : ℕ) (z : List ℕ). x ∷ z) (sym a.1) (types_along h t es (λ d i. f d (inr i)))

-- a trace's list of ids is a path with the trace's word
pub follows : (h : Assignment) → IsTyped h → (trace : List Event) → In trace h → IsPath (G h) (id_list trace) × (word (G h) (id_list trace) ≡ word_of trace)
follows h t trace i = (
  (refl, walk_along (G h) trace 0 (λ u v k. In-edge u v trace h i k)),
  ap (λ (z : List ℕ). 0 ∷ z) (types_along h t trace (λ e j. In-events e trace h i j)),
)

-- the graph accepts each word, by the trace's list of ids
pub accepts_traces : AcceptsTraces
accepts_traces h t = all_from (λ trace. IsPath (G h) (id_list trace) × (word (G h) (id_list trace) ≡ word_of trace)) h (λ trace i. follows h t trace i)

-- a trace's list of ids breaks no invariant that holds of every word
pub traces_break_none : TracesBreakNone
traces_break_none h inv t a =
    all_from (λ trace. Holds inv (word (G h) (id_list trace))) h (λ trace i.
    subst (λ (w : List ℕ). Holds inv w) (sym (follows h t trace i).1) (all_in (λ trace. Holds inv (word_of trace)) trace h a i))
