-- Cells that are moved to a new id, and what a graph keeps of them.
use Rattle.std.proofs.Common.{◌≡◌, ◌≢◌, ◌⊎◌, ℕ, suc, ◌+◌, ◌<◌, ◌≤◌, ◌==◌, ◌&&◌, Bool, true, false, cond, List, [], ◌∷◌, length, map, take, arith, ap, ap₂, sym, ◌∙◌, refl, subst, inl, inr, length-append, ne_eqb}
use Rattle.std.proofs.lemmas.Bool.{cases_Bool, cond-false}
use Rattle.std.proofs.lemmas.List.{length-map, take-map}
use Rattle.std.proofs.lemmas.List.Elements.{All-from_recursion}
use Rattle.std.specs.List.{All, AllByRecursion}
use Rattle.partition_model.specs.Assignments.{Event, Assignment, events, type_of, IsTyped}
use Rattle.partition_model.specs.Listings.{first_event, AreBelow}
use Rattle.partition_model.specs.Refinement.{split, split_trace}
use Rattle.partition_model.specs.Laws.{IsFresh}
use Rattle.partition_model.proofs.Lists.{In, In-events, events-In, all_in, all_from}
use Rattle.partition_model.proofs.Runs.{split-typed, split-event, split-In}
use Rattle.limits.specs.declared.TheConstants.{FIRST_TYPE, MAX_EVENTS, MAX_PARTITIONS}
use Rattle.partition_graph.specs.declared.cells.Cell.{Cell}
use Rattle.partition_graph.specs.declared.tables.Tables.{Tables}
use Rattle.partition_graph.specs.Cells.{event_of, put_before, traces_of, IsClosed, first_id, id_behind, moved_cells}
use Rattle.partition_graph.specs.Counts.{HasId}
use Rattle.partition_graph.specs.Kept.{IsKept}
use Rattle.partition_graph.specs.Members.{HasNone}
use Rattle.partition_graph.specs.Tables.{IsCountOf}
use Rattle.partition_graph.proofs.CellTraces.{events_are, types_are, members_are}
use Rattle.partition_graph.proofs.Edges.{edges_are}
use Rattle.partition_graph.proofs.Lasts.{first_begins}
use Rattle.partition_graph.proofs.WordCells.{all_weaker}

abbrev moved_event : ℕ → ℕ → ℕ → Event → ℕ → Event
moved_event p q n e behind = record { typ = e.typ; id = cond (e.id == p && behind == q) n e.id }

-- the moved traces of moved cells
put_moved : (p q n : ℕ) (c : Cell) (cs : List Cell) → IsClosed false cs → put_before (moved_event p q n (event_of c) (first_id cs)) (split p q n (traces_of cs)) ≡ split p q n (put_before (event_of c) (traces_of cs))
put_moved p q n c [] k = absurd (cc k)
put_moved p q n c (d ∷ ds) k =
    let f : (t : List Event) × (h : Assignment) × (traces_of (d ∷ ds) ≡ (event_of d ∷ t) ∷ h) = first_begins d ds in
    subst (λ (g : Assignment). put_before (moved_event p q n (event_of c) d.id) (split p q n g) ≡ split p q n (put_before (event_of c) g)) (sym f.2) refl

traces_moved : (p q n : ℕ) (ended : Bool) (cs : List Cell) → IsClosed ended cs → traces_of (moved_cells p q n cs) ≡ split p q n (traces_of cs)
traces_moved p q n ended [] k = refl
traces_moved p q n ended (c ∷ cs) k =
    let i : traces_of (moved_cells p q n cs) ≡ split p q n (traces_of cs) = traces_moved p q n c.last cs k in
    elim (cases_Bool c.last) [
      | inl t ↦ rw t (ap (λ (h : Assignment). (moved_event p q n (event_of c) 1 ∷ []) ∷ h) i)
      | inr f ↦ rw f (ap (λ (h : Assignment). put_before (moved_event p q n (event_of c) (first_id cs)) h) i ∙ put_moved p q n c cs (subst (λ (z : Bool). IsClosed z cs) f k))
    ]

-- the traces of moved cells are the divided traces
pub moved_are : (p q n : ℕ) (cs : List Cell) → IsClosed true cs → traces_of (moved_cells p q n cs) ≡ split p q n (traces_of cs)
moved_are p q n cs k = traces_moved p q n true cs k

-- there are as many cells as before
pub length-moved_cells : (p q n : ℕ) (cs : List Cell) → length (moved_cells p q n cs) ≡ length cs
length-moved_cells p q n [] = refl
length-moved_cells p q n (c ∷ cs) = ap suc (length-moved_cells p q n cs)

moved_closed : (p q n : ℕ) (ended : Bool) (cs : List Cell) → IsClosed ended cs → IsClosed ended (moved_cells p q n cs)
moved_closed p q n ended [] k = k
moved_closed p q n ended (c ∷ cs) k = moved_closed p q n c.last cs k

-- the ids and the types after a split
fresh : (h : Assignment) (n : ℕ) → 2 ≤ n → AreBelow n h → IsFresh n h
fresh h n two b = (two, all_from (λ e. e.id ≢ n) (events h) (λ e i q. absurd (let l : e.id < n = all_in (λ e. e.id < n) e (events h) b i in omega arith)))

split_below : (p q n : ℕ) (h : Assignment) → AreBelow n h → AreBelow (n + 1) (split p q n h)
split_below p q n h b =
    all_from (λ e. e.id < n + 1) (events (split p q n h)) (λ e i.
    let u : (s : List Event) × In s (split p q n h) × In e s = events-In e (split p q n h) i in
    let v : (t : List Event) × In t h × (split_trace p q n t ≡ u.0) = split-In p q n u.0 h u.1 in
    let w : (d : Event) × In d v.0 × ((e.id ≡ n) ⊎ (e.id ≡ d.id)) = split-event p q n v.0 e (subst (λ (z : List Event). In e z) (sym v.2) u.2) in
    let l : w.0.id < n = all_in (λ e. e.id < n) w.0 (events h) b (In-events w.0 v.0 h v.1 w.1) in
    elim w.2 [ inl a ↦ omega arith | inr a ↦ omega arith ])

-- the first events after a split
length-split_trace : (p q n : ℕ) (t : List Event) → length (split_trace p q n t) ≡ length t
length-split_trace p q n [] = refl
length-split_trace p q n (e ∷ es) = ap suc (length-split_trace p q n es)

length-events-split : (p q n : ℕ) (h : Assignment) → length (events (split p q n h)) ≡ length (events h)
length-events-split p q n [] = refl
length-events-split p q n (t ∷ h) =
    length-append (split_trace p q n t) (events (split p q n h))
    ∙ ap₂ (λ a b. a + b) (length-split_trace p q n t) (length-events-split p q n h)
    ∙ sym (length-append t (events h))

first_event-split : (p q n : ℕ) (h : Assignment) (t : ℕ) → first_event (split p q n h) t ≡ first_event h t
first_event-split p q n h t =
    ap (λ (z : Assignment). length (events z)) (take-map (λ (trace : List Event). split_trace p q n trace) t h)
    ∙ length-events-split p q n (take t h)

-- what holds of each event holds of each cell
unmapped : (P : Event → Type 0) (cs : List Cell) → AllByRecursion P (map event_of cs) → AllByRecursion (λ (c : Cell). P (event_of c)) cs
unmapped P [] a = tt
unmapped P (c ∷ cs) a = (a.0, unmapped P cs a.1)

pub all_cells : (P : Event → Type 0) (cs : List Cell) → AllByRecursion P (events (traces_of cs)) → AllByRecursion (λ (c : Cell). P (event_of c)) cs
all_cells P cs a = unmapped P cs (subst (λ (es : List Event). AllByRecursion P es) (events_are cs) a)

both_cells : (cs : List Cell) → AllByRecursion (λ (c : Cell). FIRST_TYPE ≤ c.id) cs → AllByRecursion (λ (c : Cell). c.id < MAX_PARTITIONS) cs → AllByRecursion HasId cs
both_cells [] a b = tt
both_cells (c ∷ cs) a b = ((a.0, b.0), both_cells cs a.1 b.1)

-- each cell has the id of a partition of events
pub moved_ids : (n : ℕ) (cs : List Cell) → n ≤ MAX_PARTITIONS → AreBelow n (traces_of cs) → IsTyped (traces_of cs) → All HasId cs
moved_ids n cs l b t =
    All-from_recursion HasId cs
    (both_cells cs
    (all_weaker (λ (c : Cell). (FIRST_TYPE ≤ c.id) × (c.typ ≡ type_of (traces_of cs) c.id)) (λ (c : Cell). FIRST_TYPE ≤ c.id) cs (λ c m. m.0) (all_cells (λ (e : Event). (FIRST_TYPE ≤ e.id) × (e.typ ≡ type_of (traces_of cs) e.id)) cs t))
    (all_weaker (λ (c : Cell). c.id < n) (λ (c : Cell). c.id < MAX_PARTITIONS) cs (λ (c : Cell) m. let r : c.id < MAX_PARTITIONS = omega arith in r) (all_cells (λ (e : Event). e.id < n) cs b)))

-- what is counted anew after a split
pub moved_typed : (p q n : ℕ) (cells moved : List Cell) (firsts : List ℕ) (tables : Tables) → IsKept cells firsts tables n → moved ≡ moved_cells p q n cells → IsTyped (traces_of moved)
moved_typed p q n cells moved firsts tables k e =
    let h : traces_of moved ≡ split p q n (traces_of cells) = ap (λ (cs : List Cell). traces_of cs) e ∙ moved_are p q n cells k.closed in
    subst (λ (z : Assignment). IsTyped z) (sym h) (split-typed (traces_of cells) p q n k.typed (fresh (traces_of cells) n k.two k.below))

-- all ids are below the next one that is not used
pub moved_below : (p q n : ℕ) (cells moved : List Cell) (firsts : List ℕ) (tables : Tables) → IsKept cells firsts tables n → moved ≡ moved_cells p q n cells → AreBelow (n + 1) (traces_of moved)
moved_below p q n cells moved firsts tables k e =
    let h : traces_of moved ≡ split p q n (traces_of cells) = ap (λ (cs : List Cell). traces_of cs) e ∙ moved_are p q n cells k.closed in
    subst (λ (z : Assignment). AreBelow (n + 1) z) (sym h) (split_below p q n (traces_of cells) k.below)

-- the graph after a split, with what is counted of it
pub still_kept : (p q n : ℕ) (cells moved : List Cell) (firsts : List ℕ) (tables new : Tables) → IsKept cells firsts tables n → n < MAX_PARTITIONS
    → moved ≡ moved_cells p q n cells → IsCountOf new moved → IsKept moved firsts new (n + 1)
still_kept p q n cells moved firsts tables new k l e m =
    let h : traces_of moved ≡ split p q n (traces_of cells) = ap (λ (cs : List Cell). traces_of cs) e ∙ moved_are p q n cells k.closed in
    let two : FIRST_TYPE ≤ n = k.two in
    let same : length moved ≡ length cells = ap (λ (cs : List Cell). length cs) e ∙ length-moved_cells p q n cells in
    let few : length cells ≤ MAX_EVENTS = k.few in
    let closed : IsClosed true moved = subst (λ (cs : List Cell). IsClosed true cs) (sym e) (moved_closed p q n true cells k.closed) in
    let typed : IsTyped (traces_of moved) = moved_typed p q n cells moved firsts tables k e in
    let T : ℕ → ℕ = λ x. type_of (traces_of moved) x in
    record {
      two = omega arith;
      limit = omega arith;
      few = omega arith;
      closed = closed;
      typed = typed;
      below = moved_below p q n cells moved firsts tables k e;
      first_count = k.first_count ∙ sym (ap (λ (z : Assignment). length z) h ∙ length-map (traces_of cells) (λ (trace : List Event). split_trace p q n trace));
      firsts_are = λ t b. k.firsts_are t b ∙ sym (ap (λ (z : Assignment). first_event z t) h ∙ first_event-split p q n (traces_of cells) t);
      types_are = λ r b. m.types r b ∙ types_are T r moved
          (all_weaker (λ (c : Cell). (2 ≤ c.id) × (c.typ ≡ T c.id)) (λ (c : Cell). c.typ ≡ T c.id) moved (λ c m. m.1) (all_cells (λ (e : Event). (2 ≤ e.id) × (e.typ ≡ T e.id)) moved typed));
      sizes_are = λ r b. m.sizes r b ∙ sym (members_are r moved);
      counts_are = λ r s a b. m.counts r s a b ∙ edges_are moved r s closed;
    }

-- where no cell has the id, none is moved
pub moved-none : (p q n : ℕ) (cells : List Cell) → HasNone p cells → cells ≡ moved_cells p q n cells
moved-none p q n [] none = refl
moved-none p q n (c ∷ cs) none =
    let rest : cs ≡ moved_cells p q n cs = moved-none p q n cs (λ k l. none (suc k) (omega (arith, l))) in
    let stays : (c.id == p && id_behind (c ∷ cs) == q) ≡ false = ap (λ b. b && (id_behind (c ∷ cs) == q)) (ne_eqb c.id p (none 0 (omega arith))) in
    let id : c.id ≡ cond (c.id == p && id_behind (c ∷ cs) == q) n c.id = sym (cond-false (c.id == p && id_behind (c ∷ cs) == q) n c.id stays) in
    ap (λ i. (let d : Cell = record { typ = c.typ; last = c.last; id = i } in d) ∷ cs) id
    ∙ ap (λ (ds : List Cell). (let d : Cell = record { typ = c.typ; last = c.last; id = cond (c.id == p && id_behind (c ∷ cs) == q) n c.id } in d) ∷ ds) rest
