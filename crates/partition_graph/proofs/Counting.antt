-- Cells that are counted one after another.
use Rattle.std.proofs.Common.{◌≡◌, ℕ, ◌+◌, ◌<◌, ◌≤◌, ◌==◌, cond, List, ◌∷◌, length, drop, get_or, arith, ap, sym, ◌∙◌, refl, ◌^◌, eq-eqb, add-one}
use Rattle.std.proofs.Math.Seq.{drop-cons}
use Rattle.std.proofs.lemmas.List.Elements.{recursion_from_All}
use Rattle.std.specs.List.{All, AllByRecursion}
use Rattle.limits.specs.declared.TheConstants.{INITIAL, FIRST_TYPE, MAX_PARTITIONS}
use Rattle.partition_graph.specs.declared.cells.Cell.{Cell}
use Rattle.partition_graph.specs.declared.tables.Tables.{Tables}
use Rattle.partition_graph.specs.Counts.{HasId, cells_with, last_type, edges_along, edges_at, before_next}
use Rattle.partition_graph.specs.Marks.{count_in}
use Rattle.partition_graph.specs.Sums.{HasRoom, Sums}
use Rattle.partition_graph.specs.Tables.{HasRoomFor, IsClear}
use Rattle.partition_graph.proofs.Edges.{edges_along-le}
use Rattle.partition_graph.proofs.CellTraces.{cells_with-le}
use Rattle.partition_graph.proofs.WordCells.{all_weaker}

-- the cells before this place are counted beside those of the old sums, and the next one follows this id
pub record IsCounting (o t : Sums) (before place : ℕ) (cells : List Cell) : Type 0 where
  pub known : before < MAX_PARTITIONS
  pub types : (p : ℕ) → p < MAX_PARTITIONS → last_type p (get_or t.types p 0) (drop place cells) ≡ last_type p (get_or o.types p 0) cells
  pub sizes : (p : ℕ) → p < MAX_PARTITIONS → get_or t.sizes p 0 + cells_with p (drop place cells) ≡ get_or o.sizes p 0 + cells_with p cells
  pub counts : (p q : ℕ) → p < MAX_PARTITIONS → q < MAX_PARTITIONS
      → count_in t.counts p q + edges_along before (drop place cells) p q ≡ count_in o.counts p q + edges_along INITIAL cells p q

-- the cells from a place on begin with the one at this place
pub rest-cons : (cells : List Cell) (i : ℕ) (d : Cell) → i < length cells → drop i cells ≡ get_or cells i d ∷ drop (i + 1) cells
rest-cons cells i d l = drop-cons cells i d l ∙ ap (λ n. get_or cells i d ∷ drop n cells) (sym (add-one i))

-- tables in which nothing is counted have room for cells
pub clear-room : (o : Tables) (cells : List Cell) → IsClear o → All HasId cells → length cells < 2 ^ 32 → HasRoomFor o cells
clear-room o cells clear ids few =
    record {
      sizes = λ p l. (let most : cells_with p cells ≤ length cells = cells_with-le p cells in omega (arith, most, few, clear.sizes p l));
      counts = λ p q l m.
          let two : AllByRecursion (λ (x : Cell). FIRST_TYPE ≤ x.id) cells = all_weaker HasId (λ (x : Cell). FIRST_TYPE ≤ x.id) cells (λ x h. h.0) (recursion_from_All HasId cells ids) in
          let most : edges_along INITIAL cells p q ≤ length cells = edges_along-le INITIAL cells p q two in
          omega (arith, most, few, clear.counts p q l m);
    }

-- there is room for the cell at this place
pub room-for-cell : (o t : Sums) (before i : ℕ) (cells : List Cell) (c : Cell) → drop i cells ≡ c ∷ drop (i + 1) cells → c.id < MAX_PARTITIONS → HasRoom o cells → IsCounting o t before i cells
    → get_or t.sizes c.id 0 + 1 < 2 ^ 32
room-for-cell o t before i cells c rest id room k =
    let one : cond {A = ℕ} (c.id == c.id) 1 0 ≡ 1 = ap (λ b. cond {A = ℕ} b 1 0) (eq-eqb c.id c.id refl) in
    let w : cells_with c.id (drop i cells) ≡ cond {A = ℕ} (c.id == c.id) 1 0 + cells_with c.id (drop (i + 1) cells) = ap (λ cs. cells_with c.id cs) rest in
    omega (arith, one, w, k.sizes c.id id, room.sizes c.id id)

-- and for its edges
pub room-for-edges : (o t : Sums) (before i : ℕ) (cells : List Cell) (c : Cell) (p q : ℕ) → drop i cells ≡ c ∷ drop (i + 1) cells → HasRoom o cells → IsCounting o t before i cells
    → p < MAX_PARTITIONS → q < MAX_PARTITIONS → count_in t.counts p q + edges_at before c p q < 2 ^ 32
room-for-edges o t before i cells c p q rest room k a b =
    let w : edges_along before (drop i cells) p q ≡ edges_at before c p q + edges_along (before_next c) (drop (i + 1) cells) p q = ap (λ cs. edges_along before cs p q) rest in
    omega (arith, w, k.counts p q a b, room.counts p q a b)
