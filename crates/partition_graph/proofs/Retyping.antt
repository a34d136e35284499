-- The types of cells before and after a change, and of the ids that are counted of them.
use Rattle.std.proofs.Common.{◌≡◌, ◌≢◌, ℕ, zero, suc, ◌+◌, ◌<◌, ◌≤◌, ◌==◌, ◌&&◌, ◌||◌, Bool, true, false, true≢false, cond, List, [], ◌∷◌, length, get_or, arith, ap, ap₂, sym, ◌∙◌, refl, inl, inr, eq-eqb, ne_eqb, ltb, le-ltb}
use Rattle.std.proofs.lemmas.Bool.{cases_Bool, cases_eq, cases_lt, cond-true, cond-false, and_parts, eqb-true}
use Rattle.std.specs.List.{AllByRecursion}
use Rattle.limits.specs.declared.TheConstants.{INITIAL, FIRST_TYPE, MAX_PARTITIONS}
use Rattle.partition_model.specs.Assignments.{Event, events, first_type, type_of, is_live, G}
use Rattle.partition_model.specs.Coarsening.{onto, IsPair}
use Rattle.partition_model.proofs.Merging.{onto_is, onto_other}
use Rattle.partition_graph.specs.declared.cells.Cell.{Cell}
use Rattle.partition_graph.specs.declared.tables.Tables.{Tables}
use Rattle.partition_graph.specs.Cells.{traces_of, id_behind, moved_cells, joined_cells}
use Rattle.partition_graph.specs.Types.{HaveTypes, KnowsTypes}
use Rattle.partition_graph.specs.Counts.{cells_with, edges_along, last_type}
use Rattle.partition_graph.specs.Kept.{IsKept}
use Rattle.partition_graph.specs.Tables.{type_at, size_at, count_at, HasCountsOf, IsCountOf}
use Rattle.partition_graph.proofs.CellTraces.{last_known, members_are, types_are}
use Rattle.partition_graph.proofs.Edges.{edges_are}
use Rattle.partition_graph.proofs.JoinedEdges.{sizes-joined}
use Rattle.partition_graph.proofs.Moving.{all_cells}
use Rattle.partition_graph.proofs.UnusedIds.{no_member}
use Rattle.partition_graph.proofs.WordCells.{all_weaker}

-- the type of an id that no cell has
no-last : (r typ : ℕ) (cs : List Cell) → cells_with r cs ≡ 0 → last_type r typ cs ≡ typ
no-last r typ [] e = refl
no-last r typ (c ∷ cs) e =
    elim (cases_eq c.id r) [
      | inl i ↦
          let one : cond {A = ℕ} (c.id == r) 1 0 ≡ 1 = ap (λ b. cond {A = ℕ} b 1 0) (eq-eqb c.id r i) in
          absurd (omega (arith, one, e))
      | inr n ↦
          let t : (c.id == r) ≡ false = ne_eqb c.id r n in
          let none : cond {A = ℕ} (c.id == r) 1 0 ≡ 0 = ap (λ b. cond {A = ℕ} b 1 0) t in
          rw t (no-last r typ cs (omega (arith, none, e)))
    ]

-- and of one that some cell has
some-last : (types : ℕ → ℕ) (r typ : ℕ) (cs : List Cell) → HaveTypes types cs → 0 < cells_with r cs → last_type r typ cs ≡ types r
some-last types r typ [] h l = absurd (omega (arith, l))
some-last types r typ (c ∷ cs) h l =
    elim (cases_eq c.id r) [
      | inl i ↦
          let t : (c.id == r) ≡ true = eq-eqb c.id r i in
          rw t (last_known types r c.typ cs h.1 (h.0 ∙ ap types i))
      | inr n ↦
          let t : (c.id == r) ≡ false = ne_eqb c.id r n in
          let none : cond {A = ℕ} (c.id == r) 1 0 ≡ 0 = ap (λ b. cond {A = ℕ} b 1 0) t in
          rw t (some-last types r typ cs h.1 (omega (arith, none, l)))
    ]

-- what is counted of the cells of a graph
pub counted-of : (cells : List Cell) (firsts : List ℕ) (tables : Tables) (used : ℕ) → IsKept cells firsts tables used → IsCountOf tables cells
counted-of cells firsts tables used k =
    let T : ℕ → ℕ = λ x. type_of (traces_of cells) x in
    record {
      types = λ r b. k.types_are r b ∙ sym (types_are T r cells
          (all_weaker (λ (c : Cell). (2 ≤ c.id) × (c.typ ≡ T c.id)) (λ (c : Cell). c.typ ≡ T c.id) cells (λ c m. m.1) (all_cells (λ (e : Event). (2 ≤ e.id) × (e.typ ≡ T e.id)) cells k.typed)));
      sizes = λ r b. k.sizes_are r b ∙ members_are r cells;
      counts = λ r s a b. k.counts_are r s a b ∙ sym (edges_are cells r s k.closed);
    }

-- where each id that is counted has the type that is given for it
pub knows : (types : ℕ → ℕ) (cells : List Cell) (t : Tables) → IsCountOf t cells → ((r : ℕ) → r < MAX_PARTITIONS → 0 < cells_with r cells → types r ≡ type_at t r) → KnowsTypes types t
knows types cells t k same r b =
    elim (cases_eq (size_at t r) 0) [
      | inl none ↦ k.types r b ∙ no-last r 0 cells (sym (k.sizes r b) ∙ none) ∙ sym (cond-true _ _ _ (eq-eqb (size_at t r) 0 none))
      | inr some ↦
          let s : size_at t r ≡ cells_with r cells = k.sizes r b in
          sym (same r b (omega (arith, s, some))) ∙ sym (cond-false _ _ _ (ne_eqb (size_at t r) 0 some))
    ]

-- so it is the type of the last cell of the id
pub known-last : (types : ℕ → ℕ) (cells : List Cell) (t : Tables) → HaveTypes types cells → KnowsTypes types t → ((r : ℕ) → r < MAX_PARTITIONS → size_at t r ≡ cells_with r cells)
    → (r : ℕ) → r < MAX_PARTITIONS → type_at t r ≡ last_type r 0 cells
known-last types cells t have known sizes r b =
    elim (cases_eq (size_at t r) 0) [
      | inl none ↦ known r b ∙ cond-true _ _ _ (eq-eqb (size_at t r) 0 none) ∙ sym (no-last r 0 cells (sym (sizes r b) ∙ none))
      | inr some ↦
          let s : size_at t r ≡ cells_with r cells = sizes r b in
          known r b ∙ cond-false _ _ _ (ne_eqb (size_at t r) 0 some) ∙ sym (some-last types r 0 cells have (omega (arith, s, some)))
    ]

-- the type of each cell is that which is counted of its id
typed-cell : (cells : List Cell) (firsts : List ℕ) (tables : Tables) (used : ℕ) → IsKept cells firsts tables used → (c : Cell) → FIRST_TYPE ≤ c.id → c.id < MAX_PARTITIONS
    → c.typ ≡ type_of (traces_of cells) c.id → c.typ ≡ type_at tables c.id
typed-cell cells firsts tables used k c two l e =
    e ∙ cond-false (ltb c.id 2) c.id (first_type c.id (events (traces_of cells))) (le-ltb c.id 2 two) ∙ sym (k.types_are c.id l)

both : (P Q : Cell → Type 0) (cs : List Cell) → AllByRecursion P cs → AllByRecursion Q cs → AllByRecursion (λ c. P c × Q c) cs
both P Q [] a b = tt
both P Q (c ∷ cs) a b = ((a.0, b.0), both P Q cs a.1 b.1)

pub typed-cells : (cells : List Cell) (firsts : List ℕ) (tables : Tables) (used : ℕ) → IsKept cells firsts tables used
    → AllByRecursion (λ (c : Cell). (c.typ ≡ type_at tables c.id) × (c.id < used)) cells
typed-cells cells firsts tables used k =
    let T : ℕ → ℕ = λ x. type_of (traces_of cells) x in
    let limit : used ≤ MAX_PARTITIONS = k.limit in
    all_weaker (λ (c : Cell). ((FIRST_TYPE ≤ c.id) × (c.typ ≡ T c.id)) × (c.id < used)) (λ (c : Cell). (c.typ ≡ type_at tables c.id) × (c.id < used)) cells
    (λ c m. let below : c.id < used = m.1 in (typed-cell cells firsts tables used k c m.0.0 (omega (arith, below, limit)) m.0.1, below))
    (both (λ (c : Cell). (FIRST_TYPE ≤ c.id) × (c.typ ≡ T c.id)) (λ (c : Cell). c.id < used) cells
    (all_cells (λ (e : Event). (FIRST_TYPE ≤ e.id) × (e.typ ≡ T e.id)) cells k.typed) (all_cells (λ (e : Event). e.id < used) cells k.below))

-- the types where the cells of p, or some of them, get the id n
abbrev pub types_with : (ℕ → ℕ) → ℕ → ℕ → ℕ → ℕ
types_with types p n r = cond (r == n) (types p) (types r)

with-here : (types : ℕ → ℕ) (p n : ℕ) → types_with types p n n ≡ types p
with-here types p n = cond-true _ _ _ (eq-eqb n n refl)

with-other : (types : ℕ → ℕ) (p n r : ℕ) → r ≢ n → types_with types p n r ≡ types r
with-other types p n r ne = cond-false _ _ _ (ne_eqb r n ne)

pub have-before : (types : ℕ → ℕ) (p n : ℕ) (cs : List Cell) → AllByRecursion (λ (c : Cell). (c.typ ≡ types c.id) × (c.id < n)) cs → HaveTypes (types_with types p n) cs
have-before types p n [] a = tt
have-before types p n (c ∷ cs) a =
    let below : c.id < n = a.0.1 in
    (a.0.0 ∙ sym (with-other types p n c.id (λ e. absurd (omega (arith, below, e)))), have-before types p n cs a.1)

pub have-moved : (types : ℕ → ℕ) (p next n : ℕ) (cs : List Cell) → AllByRecursion (λ (c : Cell). (c.typ ≡ types c.id) × (c.id < n)) cs → HaveTypes (types_with types p n) (moved_cells p next n cs)
have-moved types p next n [] a = tt
have-moved types p next n (c ∷ cs) a =
    let T : ℕ → ℕ = types_with types p n in
    let below : c.id < n = a.0.1 in
    let goes : Bool = c.id == p && id_behind (c ∷ cs) == next in
    let here : c.typ ≡ T (cond goes n c.id) =
    elim (cases_Bool goes) [
      | inl t ↦
          let from : c.id ≡ p = eqb-true c.id p (and_parts (c.id == p) (id_behind (c ∷ cs) == next) t).0 in
          a.0.0 ∙ ap types from ∙ sym (with-here types p n) ∙ ap T (sym (cond-true goes n c.id t))
      | inr f ↦ a.0.0 ∙ sym (with-other types p n c.id (λ e. absurd (omega (arith, below, e)))) ∙ ap T (sym (cond-false goes n c.id f))
    ] in
    (here, have-moved types p next n cs a.1)

pub have-joined : (types : ℕ → ℕ) (p q : ℕ) (cs : List Cell) → types p ≡ types q → AllByRecursion (λ (c : Cell). c.typ ≡ types c.id) cs → HaveTypes types (joined_cells p q cs)
have-joined types p q [] e a = tt
have-joined types p q (c ∷ cs) e a =
    let here : c.typ ≡ types (onto p q c.id) =
    elim (cases_eq c.id q) [
      | inl is ↦ a.0 ∙ ap types is ∙ sym e ∙ ap types (sym (onto_is p q c.id is))
      | inr is ↦ a.0 ∙ ap types (sym (onto_other p q c.id is))
    ] in
    (here, have-joined types p q cs e a.1)

-- no cell has an id that is not used
pub none-unused : (cells : List Cell) (firsts : List ℕ) (tables : Tables) (used : ℕ) → IsKept cells firsts tables used → cells_with used cells ≡ 0
none-unused cells firsts tables used k = sym (members_are used cells) ∙ sym (no_member (traces_of cells) used k.below used (omega arith))

-- the two of a pair have one type
pub pair-types : (cells : List Cell) (firsts : List ℕ) (tables : Tables) (used p q : ℕ) → IsKept cells firsts tables used → IsPair (G (traces_of cells)) p q → p < MAX_PARTITIONS → q < MAX_PARTITIONS
    → type_at tables p ≡ type_at tables q
pair-types cells firsts tables used p q k i a b =
    let low : FIRST_TYPE ≤ p = i.low in
    let order : p < q = i.order in
    k.types_are p a ∙ sym (cond-false (ltb p 2) p (first_type p (events (traces_of cells))) (le-ltb p 2 low)) ∙ i.types
    ∙ cond-false (ltb q 2) q (first_type q (events (traces_of cells))) (le-ltb q 2 (omega (arith, low, order))) ∙ sym (k.types_are q b)

-- a pair is one of ids that are used
pub pair-below : (cells : List Cell) (firsts : List ℕ) (tables : Tables) (used p q : ℕ) → IsKept cells firsts tables used → IsPair (G (traces_of cells)) p q → q < used
pair-below cells firsts tables used p q k i =
    let low : FIRST_TYPE ≤ p = i.low in
    let order : p < q = i.order in
    elim (cases_lt q used) [
      | inl l ↦ l
      | inr past ↦
          let dead : is_live (traces_of cells) q ≡ false =
          ap₂ (λ (a b : Bool). a || b) (le-ltb q 2 (omega (arith, low, order))) (ap (λ n. ltb 0 n) (sym (no_member (traces_of cells) used k.below q past))) in
          absurd (true≢false (sym i.has_q ∙ dead))
    ]

-- what is counted of moved cells
pub moved-count : (p next : ℕ) (cells : List Cell) (firsts : List ℕ) (tables new : Tables) (used : ℕ) → IsKept cells firsts tables used → p < used
    → ((types : ℕ → ℕ) → types p ≡ types used → HaveTypes types cells → KnowsTypes types tables → KnowsTypes types new) → HasCountsOf new (moved_cells p next used cells)
    → IsCountOf new (moved_cells p next used cells)
moved-count p next cells firsts tables new used k less types counted =
    let T : ℕ → ℕ = types_with (λ r. type_at tables r) p used in
    let typed = typed-cells cells firsts tables used k in
    let before : HaveTypes T cells = have-before (λ r. type_at tables r) p used cells typed in
    let after : HaveTypes T (moved_cells p next used cells) = have-moved (λ r. type_at tables r) p next used cells typed in
    let none : cells_with used cells ≡ 0 = none-unused cells firsts tables used k in
    let one : T p ≡ T used = with-other (λ r. type_at tables r) p used p (λ e. absurd (omega (arith, less, e))) ∙ sym (with-here (λ r. type_at tables r) p used) in
    let known : KnowsTypes T tables = knows T cells tables (counted-of cells firsts tables used k)
    (λ r b some. with-other (λ x. type_at tables x) p used r (λ e. let same : cells_with r cells ≡ cells_with used cells = ap (λ x. cells_with x cells) e in absurd (omega (arith, same, none, some)))) in
    record {
      types = known-last T (moved_cells p next used cells) new after (types T one before known) counted.sizes;
      sizes = counted.sizes;
      counts = counted.counts;
    }

first-parts : (types : ℕ → ℕ) (n : ℕ) (cs : List Cell) → AllByRecursion (λ (c : Cell). (c.typ ≡ types c.id) × (c.id < n)) cs → HaveTypes types cs
first-parts types n [] a = tt
first-parts types n (c ∷ cs) a = (a.0.0, first-parts types n cs a.1)

-- the types that are known once those of one id are none
joined-types : (p q : ℕ) (types : ℕ → ℕ) (tables new : Tables) → KnowsTypes types tables
    → ((r : ℕ) → r < MAX_PARTITIONS → type_at new r ≡ cond (r == q) 0 (type_at tables r))
    → ((r : ℕ) → r < MAX_PARTITIONS → size_at new r ≡ cond (r == q) 0 (size_at tables r + cond (r == p) (size_at tables q) 0))
    → ((r : ℕ) → type_at tables r ≡ types r) → KnowsTypes types new
joined-types p q types tables new known typed sized same r low =
    elim (cases_eq r q) [
      | inl gone ↦
          let size : size_at new r ≡ 0 = sized r low ∙ cond-true _ _ _ (eq-eqb r q gone) in
          typed r low ∙ cond-true _ _ _ (eq-eqb r q gone) ∙ sym (cond-true _ _ _ (eq-eqb (size_at new r) 0 size))
      | inr kept ↦
          let typ : type_at new r ≡ type_at tables r = typed r low ∙ cond-false _ _ _ (ne_eqb r q kept) in
          let size : size_at new r ≡ size_at tables r + cond {A = ℕ} (r == p) (size_at tables q) 0 = sized r low ∙ cond-false _ _ _ (ne_eqb r q kept) in
          elim (cases_eq (size_at new r) 0) [
            | inl none ↦
                let was : size_at tables r ≡ 0 = omega (arith, size, none) in
                typ ∙ known r low ∙ cond-true _ _ _ (eq-eqb (size_at tables r) 0 was) ∙ sym (cond-true _ _ _ (eq-eqb (size_at new r) 0 none))
            | inr some ↦ typ ∙ same r ∙ sym (cond-false _ _ _ (ne_eqb (size_at new r) 0 some))
          ]
    ]

-- what is counted of joined cells
pub joined-count : (p q : ℕ) (cells : List Cell) (firsts : List ℕ) (tables new : Tables) (used : ℕ) → IsKept cells firsts tables used → IsPair (G (traces_of cells)) p q
    → ((r : ℕ) → r < MAX_PARTITIONS → type_at new r ≡ cond (r == q) 0 (type_at tables r))
    → ((r : ℕ) → r < MAX_PARTITIONS → size_at new r ≡ cond (r == q) 0 (size_at tables r + cond (r == p) (size_at tables q) 0))
    → ((r s : ℕ) → r < MAX_PARTITIONS → s < MAX_PARTITIONS → count_at new r s ≡ edges_along INITIAL (joined_cells p q cells) r s)
    → IsCountOf new (joined_cells p q cells)
joined-count p q cells firsts tables new used k i typed sized counts =
    let T : ℕ → ℕ = λ r. type_at tables r in
    let below : q < used = pair-below cells firsts tables used p q k i in
    let limit : used ≤ MAX_PARTITIONS = k.limit in
    let order : p < q = i.order in
    let was : IsCountOf tables cells = counted-of cells firsts tables used k in
    let before : HaveTypes T cells = first-parts T used cells (typed-cells cells firsts tables used k) in
    let after : HaveTypes T (joined_cells p q cells) =
    have-joined T p q cells (pair-types cells firsts tables used p q k i (omega (arith, below, limit, order)) (omega (arith, below, limit))) before in
    let known : KnowsTypes T tables = knows T cells tables was (λ r b some. refl) in
    let sizes : (r : ℕ) → r < MAX_PARTITIONS → size_at new r ≡ cells_with r (joined_cells p q cells) =
    (λ r b. sized r b
    ∙ ap₂ (λ m n. cond {A = ℕ} (r == q) 0 (m + cond {A = ℕ} (r == p) n 0)) (was.sizes r b) (was.sizes q (omega (arith, below, limit)))
    ∙ sym (sizes-joined p q r cells (λ e. absurd (omega (arith, order, e))))) in
    record {
      types = known-last T (joined_cells p q cells) new after (joined-types p q T tables new known typed sized (λ r. refl)) sizes;
      sizes = sizes;
      counts = counts;
    }

-- types that are known stay so where one more cell of an id is counted
pub adds-type : (types : ℕ → ℕ) (t u : Tables) (id typ : ℕ) → KnowsTypes types t → typ ≡ types id
    → ((p : ℕ) → p < MAX_PARTITIONS → type_at u p ≡ cond (id == p) typ (type_at t p))
    → ((p : ℕ) → p < MAX_PARTITIONS → size_at u p ≡ size_at t p + cond {A = ℕ} (id == p) 1 0)
    → KnowsTypes types u
adds-type types t u id typ k is typed sized p l =
    let s : size_at u p ≡ size_at t p + cond {A = ℕ} (id == p) 1 0 = sized p l in
    elim (cases_eq id p) [
      | inl e ↦
          let yes : (id == p) ≡ true = eq-eqb id p e in
          let one : cond {A = ℕ} (id == p) 1 0 ≡ 1 = ap (λ b. cond {A = ℕ} b 1 0) yes in
          typed p l ∙ cond-true _ _ _ yes ∙ is ∙ ap types e ∙ sym (cond-false _ _ _ (ne_eqb (size_at u p) 0 (λ z. absurd (omega (arith, s, one, z)))))
      | inr n ↦
          let no : (id == p) ≡ false = ne_eqb id p n in
          let none : cond {A = ℕ} (id == p) 1 0 ≡ 0 = ap (λ b. cond {A = ℕ} b 1 0) no in
          let same : size_at t p ≡ size_at u p = omega (arith, s, none) in
          typed p l ∙ cond-false _ _ _ no ∙ k p l ∙ ap (λ (m : ℕ). cond (m == 0) 0 (types p)) same
    ]

-- a cell has the type that is given for its id
pub type-of-cell : (types : ℕ → ℕ) (cells : List Cell) (i : ℕ) (d : Cell) → i < length cells → HaveTypes types cells → (get_or cells i d).typ ≡ types (get_or cells i d).id
type-of-cell types [] i d l h = absurd (omega (arith, l))
type-of-cell types (c ∷ cs) zero d l h = h.0
type-of-cell types (c ∷ cs) (suc i) d l h = type-of-cell types cs i d (omega (arith, l)) h.1

-- types that are given for cells once those of one id have another
pub have-unjoined : (types : ℕ → ℕ) (p n : ℕ) (cs : List Cell) → types p ≡ types n → HaveTypes types (joined_cells p n cs) → HaveTypes types cs
have-unjoined types p n [] e h = tt
have-unjoined types p n (c ∷ cs) e h =
    let here : types (onto p n c.id) ≡ types c.id = elim (cases_eq c.id n) [
      | inl is ↦ ap types (onto_is p n c.id is) ∙ e ∙ ap types (sym is)
      | inr is ↦ ap types (onto_other p n c.id is)
    ] in
    (h.0 ∙ here, have-unjoined types p n cs e h.1)
