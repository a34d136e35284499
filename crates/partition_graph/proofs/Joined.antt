-- Cells that are given to another id, and what a graph keeps of them.
use Rattle.std.proofs.Common.{◌≡◌, ℕ, suc, ◌<◌, ◌≤◌, Bool, true, List, [], ◌∷◌, length, map, take, arith, ap, sym, ◌∙◌, refl, subst, inl, inr}
use Rattle.std.proofs.lemmas.Bool.{cases_Bool, cases_eq}
use Rattle.std.proofs.lemmas.List.{length-map, take-map}
use Rattle.std.specs.List.{AllByRecursion}
use Rattle.limits.specs.declared.TheConstants.{MAX_EVENTS}
use Rattle.partition_model.specs.Assignments.{Event, Assignment, events, type_of, renamed_event, G, IsTyped}
use Rattle.partition_model.specs.Listings.{first_event, AreBelow}
use Rattle.partition_model.specs.Coarsening.{merge, onto, IsPair}
use Rattle.partition_model.proofs.Lists.{In, In-map, all_in, all_from}
use Rattle.partition_model.proofs.Naming.{events-renamed, typed_from}
use Rattle.partition_model.proofs.Merging.{merge_typed, onto_is, onto_other}
use Rattle.partition_graph.specs.declared.cells.Cell.{Cell}
use Rattle.partition_graph.specs.declared.tables.Tables.{Tables}
use Rattle.partition_graph.specs.Cells.{event_of, put_before, traces_of, joined_cells, IsClosed}
use Rattle.partition_graph.specs.Kept.{IsKept}
use Rattle.partition_graph.specs.Tables.{IsCountOf}
use Rattle.partition_graph.proofs.CellTraces.{types_are, members_are}
use Rattle.partition_graph.proofs.Edges.{edges_are}
use Rattle.partition_graph.proofs.Moving.{all_cells}
use Rattle.partition_graph.proofs.WordCells.{all_weaker}

-- the merged traces of joined cells
put_joined : (p q : ℕ) (e : Event) (h : Assignment) → put_before (renamed_event (onto p q) e) (merge p q h) ≡ merge p q (put_before e h)
put_joined p q e [] = refl
put_joined p q e (t ∷ h) = refl

-- the traces of joined cells are the merged traces
pub joined_are : (p q : ℕ) (cs : List Cell) → traces_of (joined_cells p q cs) ≡ merge p q (traces_of cs)
joined_are p q [] = refl
joined_are p q (c ∷ cs) =
    let i : traces_of (joined_cells p q cs) ≡ merge p q (traces_of cs) = joined_are p q cs in
    elim (cases_Bool c.last) [
      | inl t ↦ rw t (ap (λ (h : Assignment). (renamed_event (onto p q) (event_of c) ∷ []) ∷ h) i)
      | inr f ↦ rw f (ap (λ (h : Assignment). put_before (renamed_event (onto p q) (event_of c)) h) i ∙ put_joined p q (event_of c) (traces_of cs))
    ]

pub length-joined_cells : (p q : ℕ) (cs : List Cell) → length (joined_cells p q cs) ≡ length cs
length-joined_cells p q [] = refl
length-joined_cells p q (c ∷ cs) = ap suc (length-joined_cells p q cs)

joined_closed : (p q : ℕ) (ended : Bool) (cs : List Cell) → IsClosed ended cs → IsClosed ended (joined_cells p q cs)
joined_closed p q ended [] k = k
joined_closed p q ended (c ∷ cs) k = joined_closed p q c.last cs k

-- the ids after a merge
merge_below : (p q n : ℕ) (h : Assignment) → p < q → AreBelow n h → AreBelow n (merge p q h)
merge_below p q n h l b =
    subst (λ (es : List Event). AllByRecursion (λ (e : Event). e.id < n) es) (sym (events-renamed (onto p q) h))
    (all_from (λ (e : Event). e.id < n) (map (renamed_event (onto p q)) (events h)) (λ e i.
    let d : (d : Event) × In d (events h) × (renamed_event (onto p q) d ≡ e) = In-map (renamed_event (onto p q)) e (events h) i in
    let under : d.0.id < n = all_in (λ (x : Event). x.id < n) d.0 (events h) b d.1 in
    let same : onto p q d.0.id ≡ e.id = ap (λ (x : Event). x.id) d.2 in
    elim (cases_eq d.0.id q) [
      | inl is ↦ let to : onto p q d.0.id ≡ p = onto_is p q d.0.id is in omega (arith, under, same, is, to, l)
      | inr is ↦ let to : onto p q d.0.id ≡ d.0.id = onto_other p q d.0.id is in omega (arith, under, same, to)
    ]))

-- the first events after a merge
first_event-merge : (p q : ℕ) (h : Assignment) (t : ℕ) → first_event (merge p q h) t ≡ first_event h t
first_event-merge p q h t =
    ap (λ (z : Assignment). length (events z)) (take-map (λ (trace : List Event). map (renamed_event (onto p q)) trace) t h)
    ∙ ap (λ (es : List Event). length es) (events-renamed (onto p q) (take t h))
    ∙ length-map (events (take t h)) (renamed_event (onto p q))

-- the cells after a merge
traces_joined : (p q : ℕ) (cells joined : List Cell) → joined ≡ joined_cells p q cells → traces_of joined ≡ merge p q (traces_of cells)
traces_joined p q cells joined e = ap (λ (cs : List Cell). traces_of cs) e ∙ joined_are p q cells

-- what is counted anew after a merge
pub joined_typed : (p q n : ℕ) (cells joined : List Cell) (firsts : List ℕ) (tables : Tables) → IsKept cells firsts tables n → IsPair (G (traces_of cells)) p q
    → joined ≡ joined_cells p q cells → IsTyped (traces_of joined)
joined_typed p q n cells joined firsts tables k i e =
    let h : Assignment = traces_of cells in
    subst (λ (z : Assignment). IsTyped z) (sym (traces_joined p q cells joined e)) (typed_from (λ x. type_of h x) (merge p q h) (merge_typed h p q k.typed i))

-- all ids are below the same number
pub joined_below : (p q n : ℕ) (cells joined : List Cell) (firsts : List ℕ) (tables : Tables) → IsKept cells firsts tables n → IsPair (G (traces_of cells)) p q
    → joined ≡ joined_cells p q cells → AreBelow n (traces_of joined)
joined_below p q n cells joined firsts tables k i e =
    subst (λ (z : Assignment). AreBelow n z) (sym (traces_joined p q cells joined e)) (merge_below p q n (traces_of cells) i.order k.below)

-- the graph after a merge, with what is counted of it
pub joined_kept : (p q n : ℕ) (cells joined : List Cell) (firsts : List ℕ) (tables new : Tables) → IsKept cells firsts tables n → IsPair (G (traces_of cells)) p q
    → joined ≡ joined_cells p q cells → IsCountOf new joined → IsKept joined firsts new n
joined_kept p q n cells joined firsts tables new k i e m =
    let h : traces_of joined ≡ merge p q (traces_of cells) = traces_joined p q cells joined e in
    let same : length joined ≡ length cells = ap (λ (cs : List Cell). length cs) e ∙ length-joined_cells p q cells in
    let few : length cells ≤ MAX_EVENTS = k.few in
    let closed : IsClosed true joined = subst (λ (cs : List Cell). IsClosed true cs) (sym e) (joined_closed p q true cells k.closed) in
    let typed : IsTyped (traces_of joined) = joined_typed p q n cells joined firsts tables k i e in
    let T : ℕ → ℕ = λ x. type_of (traces_of joined) x in
    record {
      two = k.two;
      limit = k.limit;
      few = omega (arith, same, few);
      closed = closed;
      typed = typed;
      below = joined_below p q n cells joined firsts tables k i e;
      first_count = k.first_count ∙ sym (ap (λ (z : Assignment). length z) h ∙ length-map (traces_of cells) (λ (trace : List Event). map (renamed_event (onto p q)) trace));
      firsts_are = λ t b. k.firsts_are t b ∙ sym (ap (λ (z : Assignment). first_event z t) h ∙ first_event-merge p q (traces_of cells) t);
      types_are = λ r b. m.types r b ∙ types_are T r joined
          (all_weaker (λ (c : Cell). (2 ≤ c.id) × (c.typ ≡ T c.id)) (λ (c : Cell). c.typ ≡ T c.id) joined (λ c m. m.1) (all_cells (λ (e : Event). (2 ≤ e.id) × (e.typ ≡ T e.id)) joined typed));
      sizes_are = λ r b. m.sizes r b ∙ sym (members_are r joined);
      counts_are = λ r s a b. m.counts r s a b ∙ edges_are joined r s closed;
    }
