-- The traces of cells: their events, sizes and types.
use Rattle.std.proofs.Common.{◌≡◌, ℕ, suc, ◌+◌, ◌≤◌, ◌==◌, true, false, cond, List, [], ◌∷◌, length, map, arith, ap, sym, ◌∙◌, refl, inl, inr, count_by, eq-eqb, ne_eqb, Option, Some}
use Rattle.std.proofs.lemmas.Bool.{cases_eq}
use Rattle.std.proofs.lemmas.List.{length-map}
use Rattle.std.proofs.lemmas.Option.{slice_get-map}
use Rattle.std.specs.Option.{option_map}
use Rattle.std.specs.List.{AllByRecursion, slice_get}
use Rattle.partition_model.specs.Assignments.{Event, Assignment, events, members, first_type, ids_of}
use Rattle.partition_model.specs.Listings.{parts_of}
use Rattle.partition_model.proofs.Lists.{members-cons}
use Rattle.partition_graph.specs.declared.cells.Cell.{Cell}
use Rattle.partition_graph.specs.Cells.{event_of, put_before, traces_of}
use Rattle.partition_graph.specs.Counts.{cells_with, last_type}

put-events : (e : Event) (h : Assignment) → events (put_before e h) ≡ e ∷ events h
put-events e [] = refl
put-events e (t ∷ h) = refl

-- the events are those of the cells
pub events_are : (cs : List Cell) → events (traces_of cs) ≡ map event_of cs
events_are [] = refl
events_are (c ∷ cs) =
    let i : events (traces_of cs) ≡ map event_of cs = events_are cs in
    elim c.last as (λ b. events (cond b ((event_of c ∷ []) ∷ traces_of cs) (put_before (event_of c) (traces_of cs))) ≡ event_of c ∷ map event_of cs) [
      | true ↦ ap (λ (es : List Event). event_of c ∷ es) i
      | false ↦ put-events (event_of c) (traces_of cs) ∙ ap (λ (es : List Event). event_of c ∷ es) i
    ]

-- there are as many events as cells
pub length-events : (cs : List Cell) → length (events (traces_of cs)) ≡ length cs
length-events cs = ap (λ (es : List Event). length es) (events_are cs) ∙ length-map cs event_of

ids_are : (cs : List Cell) → ids_of (map event_of cs) ≡ map (λ (c : Cell). c.id) cs
ids_are [] = refl
ids_are (c ∷ cs) = ap (λ (ids : List ℕ). c.id ∷ ids) (ids_are cs)

-- the ids of the events are those of the cells
pub parts_are : (cs : List Cell) → parts_of (traces_of cs) ≡ map (λ (c : Cell). c.id) cs
parts_are cs = ap (λ (es : List Event). ids_of es) (events_are cs) ∙ ids_are cs

sizes_of_events : (p : ℕ) (cs : List Cell) → count_by (λ (e : Event). e.id == p) (map event_of cs) ≡ cells_with p cs
sizes_of_events p [] = refl
sizes_of_events p (c ∷ cs) =
    let i : count_by (λ (e : Event). e.id == p) (map event_of cs) ≡ cells_with p cs = sizes_of_events p cs in
    members-cons p (event_of c) (map event_of cs) ∙ ap (λ n. cond (c.id == p) 1 0 + n) i

-- an id has as many events as cells
pub members_are : (p : ℕ) (cs : List Cell) → members (traces_of cs) p ≡ cells_with p cs
members_are p cs = ap (λ (es : List Event). count_by (λ (e : Event). e.id == p) es) (events_are cs) ∙ sizes_of_events p cs

-- the last type is the first one where all cells of an id have one type
pub last_known : (T : ℕ → ℕ) (p d : ℕ) (cs : List Cell) → AllByRecursion (λ (c : Cell). c.typ ≡ T c.id) cs → d ≡ T p → last_type p d cs ≡ T p
last_known T p d [] a e = e
last_known T p d (c ∷ cs) a e =
    elim (cases_eq c.id p) [
      | inl i ↦
          let t : (c.id == p) ≡ true = eq-eqb c.id p i in
          rw t (last_known T p c.typ cs a.1 (a.0 ∙ ap T i))
      | inr n ↦
          let t : (c.id == p) ≡ false = ne_eqb c.id p n in
          rw t (last_known T p d cs a.1 e)
    ]

last_first : (T : ℕ → ℕ) (p : ℕ) (cs : List Cell) → AllByRecursion (λ (c : Cell). c.typ ≡ T c.id) cs → last_type p 0 cs ≡ first_type p (map event_of cs)
last_first T p [] a = refl
last_first T p (c ∷ cs) a =
    elim (cases_eq c.id p) [
      | inl i ↦
          let t : (c.id == p) ≡ true = eq-eqb c.id p i in
          let k : c.typ ≡ T p = a.0 ∙ ap T i in
          rw t (last_known T p c.typ cs a.1 k ∙ sym k)
      | inr n ↦
          let t : (c.id == p) ≡ false = ne_eqb c.id p n in
          rw t (last_first T p cs a.1)
    ]

-- where the cells of each id have one type, the type of the last cell of an id is that of its first event
pub types_are : (T : ℕ → ℕ) (p : ℕ) (cs : List Cell) → AllByRecursion (λ (c : Cell). c.typ ≡ T c.id) cs → last_type p 0 cs ≡ first_type p (events (traces_of cs))
types_are T p cs a = last_first T p cs a ∙ sym (ap (λ (es : List Event). first_type p es) (events_are cs))

-- an id has at most all cells
pub cells_with-le : (p : ℕ) (cs : List Cell) → cells_with p cs ≤ length cs
cells_with-le p [] = omega arith
cells_with-le p (c ∷ cs) =
    let i : cells_with p cs ≤ length cs = cells_with-le p cs in
    elim (c.id == p) as (λ b. cond b 1 0 + cells_with p cs ≤ suc (length cs)) [ true ↦ omega arith | false ↦ omega arith ]

-- the id of an event, by its cell
pub part_at : (cs : List Cell) (i : ℕ) (x : Cell) → slice_get cs i ≡ Some x → slice_get (parts_of (traces_of cs)) i ≡ Some x.id
part_at cs i x e =
    ap (λ (ids : List ℕ). slice_get ids i) (parts_are cs)
    ∙ slice_get-map (λ (c : Cell). c.id) cs i
    ∙ ap (λ (o : Option Cell). option_map (λ (c : Cell). c.id) o) e
