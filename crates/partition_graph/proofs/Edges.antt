-- The edges between cells are those of their traces.
use Rattle.std.proofs.Common.{◌≡◌, ℕ, suc, ◌+◌, ◌≤◌, ◌==◌, ◌&&◌, Bool, true, false, cond, List, [], ◌∷◌, ◌++◌, length, arith, ap, sym, ◌∙◌, refl, subst, inl, inr, eq-eqb, ne_eqb}
use Rattle.std.proofs.lemmas.Bool.{cases_eq, cases_Bool, and_right}
use Rattle.std.specs.List.{AllByRecursion}
use Rattle.partition_model.specs.Assignments.{Event, Assignment, pairs, ids_of, edge_count}
use Rattle.partition_model.proofs.Lists.{edge_count-cons}
use Rattle.partition_graph.specs.declared.cells.Cell.{Cell}
use Rattle.partition_graph.specs.Cells.{event_of, put_before, traces_of, IsClosed}
use Rattle.partition_graph.specs.Counts.{is_edge, edges_at, edges_along, before_next}
use Rattle.partition_graph.proofs.Lasts.{first_begins}

-- the edges of traces, the first of which goes on behind an id
abbrev from_before : ℕ → Assignment → ℕ → ℕ → ℕ
from_before b [] p q = 0
from_before b (t ∷ h) p q = pairs p q (b ∷ (ids_of t ++ 1 ∷ [])) + edge_count h p q

from_start : (h : Assignment) (p q : ℕ) → from_before 0 h p q ≡ edge_count h p q
from_start [] p q = refl
from_start (t ∷ h) p q = sym (edge_count-cons t h p q)

-- nothing follows TERMINAL
pairs_end : (p q : ℕ) → pairs p q (1 ∷ []) ≡ 0
pairs_end p q = rw (and_right (1 == p) false refl)

-- a trace of one event
alone : (b : ℕ) (e : Event) (h : Assignment) (p q : ℕ) → from_before b ((e ∷ []) ∷ h) p q ≡ (is_edge b e.id p q + is_edge e.id 1 p q) + from_before 0 h p q
alone b e h p q =
    let s : from_before 0 h p q ≡ edge_count h p q = from_start h p q in
    let y : pairs p q (1 ∷ []) ≡ 0 = pairs_end p q in
    let a : from_before b ((e ∷ []) ∷ h) p q ≡ (is_edge b e.id p q + (is_edge e.id 1 p q + pairs p q (1 ∷ []))) + edge_count h p q = refl in
    omega arith

-- one more event before a trace
longer : (b : ℕ) (e d : Event) (t : List Event) (h : Assignment) (p q : ℕ) → from_before b ((e ∷ (d ∷ t)) ∷ h) p q ≡ is_edge b e.id p q + from_before e.id ((d ∷ t) ∷ h) p q
longer b e d t h p q =
    let a : from_before b ((e ∷ (d ∷ t)) ∷ h) p q ≡ (is_edge b e.id p q + pairs p q (e.id ∷ (ids_of (d ∷ t) ++ 1 ∷ []))) + edge_count h p q = refl in
    let c : from_before e.id ((d ∷ t) ∷ h) p q ≡ pairs p q (e.id ∷ (ids_of (d ∷ t) ++ 1 ∷ [])) + edge_count h p q = refl in
    omega arith

put_longer : (b : ℕ) (c : Cell) (cs : List Cell) (p q : ℕ) → IsClosed false cs → from_before b (put_before (event_of c) (traces_of cs)) p q ≡ is_edge b c.id p q + from_before c.id (traces_of cs) p q
put_longer b c [] p q k = absurd (cc k)
put_longer b c (d ∷ ds) p q k =
    let f : (t : List Event) × (h : Assignment) × (traces_of (d ∷ ds) ≡ (event_of d ∷ t) ∷ h) = first_begins d ds in
    subst (λ (g : Assignment). from_before b (put_before (event_of c) g) p q ≡ is_edge b c.id p q + from_before c.id g p q) (sym f.2) (longer b (event_of c) (event_of d) f.0 f.1 p q)

edges_before : (b : ℕ) (cs : List Cell) (ended : Bool) (p q : ℕ) → IsClosed ended cs → edges_along b cs p q ≡ from_before b (traces_of cs) p q
edges_before b [] ended p q k = refl
edges_before b (c ∷ cs) ended p q k =
    elim (cases_Bool c.last) [
      | inl t ↦
          let i : edges_along 0 cs p q ≡ from_before 0 (traces_of cs) p q = edges_before 0 cs c.last p q k in
          let a : from_before b ((event_of c ∷ []) ∷ traces_of cs) p q ≡ (is_edge b c.id p q + is_edge c.id 1 p q) + from_before 0 (traces_of cs) p q = alone b (event_of c) (traces_of cs) p q in
          rw t (omega arith)
      | inr f ↦
          let i : edges_along c.id cs p q ≡ from_before c.id (traces_of cs) p q = edges_before c.id cs c.last p q k in
          let a : from_before b (put_before (event_of c) (traces_of cs)) p q ≡ is_edge b c.id p q + from_before c.id (traces_of cs) p q = put_longer b c cs p q (subst (λ (z : Bool). IsClosed z cs) f k) in
          rw f (omega arith)
    ]

-- the edges between cells are those of their traces
pub edges_are : (cs : List Cell) (p q : ℕ) → IsClosed true cs → edges_along 0 cs p q ≡ edge_count (traces_of cs) p q
edges_are cs p q k = edges_before 0 cs true p q k ∙ from_start (traces_of cs) p q

-- an edge leads to a cell at most once, or from it to TERMINAL
is_edge-le : (a b p q : ℕ) → is_edge a b p q ≤ 1
is_edge-le a b p q = elim (a == p && b == q) as (λ z. cond z 1 0 ≤ 1) [ true ↦ omega arith | false ↦ omega arith ]

is_edge-other : (a b p q : ℕ) → (b ≡ q → ⊥) → is_edge a b p q ≡ 0
is_edge-other a b p q n = let f : (b == q) ≡ false = ne_eqb b q n in let g : (a == p && b == q) ≡ false = and_right (a == p) (b == q) f in rw g

once : (b : ℕ) (c : Cell) (p q : ℕ) → 2 ≤ c.id → edges_at b c p q ≤ 1
once b c p q l =
    elim (cases_eq c.id q) [
      | inl e ↦
          let z : is_edge c.id 1 p q ≡ 0 = is_edge-other c.id 1 p q (λ k. omega arith) in
          let o : is_edge b c.id p q ≤ 1 = is_edge-le b c.id p q in
          elim c.last as (λ x. is_edge b c.id p q + cond x (is_edge c.id 1 p q) 0 ≤ 1) [ true ↦ omega arith | false ↦ omega arith ]
      | inr n ↦
          let z : is_edge b c.id p q ≡ 0 = is_edge-other b c.id p q n in
          let o : is_edge c.id 1 p q ≤ 1 = is_edge-le c.id 1 p q in
          elim c.last as (λ x. is_edge b c.id p q + cond x (is_edge c.id 1 p q) 0 ≤ 1) [ true ↦ omega arith | false ↦ omega arith ]
    ]

-- an edge stands between cells at most as often as there are cells
pub edges_along-le : (b : ℕ) (cs : List Cell) (p q : ℕ) → AllByRecursion (λ (c : Cell). 2 ≤ c.id) cs → edges_along b cs p q ≤ length cs
edges_along-le b [] p q a = omega arith
edges_along-le b (c ∷ cs) p q a =
    let i : edges_along (before_next c) cs p q ≤ length cs = edges_along-le (before_next c) cs p q a.1 in
    let o : edges_at b c p q ≤ 1 = once b c p q a.0 in
    let g : edges_at b c p q + edges_along (before_next c) cs p q ≤ suc (length cs) = omega arith in
    g

-- a cell that ends its trace has the edge to TERMINAL
pub edge_to_end : (b : ℕ) (c : Cell) → c.last ≡ true → edges_at b c c.id 1 ≡ is_edge b c.id c.id 1 + 1
edge_to_end b c t =
    let e : (c.id == c.id) ≡ true = eq-eqb c.id c.id refl in
    let o : is_edge c.id 1 c.id 1 ≡ 1 = rw e in
    rw t (ap (λ n. is_edge b c.id c.id 1 + n) o)
