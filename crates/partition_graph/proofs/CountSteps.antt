-- Where the counting of cells begins, how it goes on, and where it ends.
use Rattle.std.proofs.Common.{◌≡◌, ℕ, ◌+◌, ◌<◌, ◌≤◌, ◌==◌, cond, true, false, List, ◌∷◌, [], length, drop, get_or, arith, ap, sym, ◌∙◌}
use Rattle.std.proofs.lemmas.List.{drop_all}
use Rattle.limits.specs.declared.TheConstants.{INITIAL, MAX_PARTITIONS}
use Rattle.partition_graph.specs.declared.cells.Cell.{Cell}
use Rattle.partition_graph.specs.declared.tables.Tables.{Tables}
use Rattle.partition_graph.specs.Counts.{cells_with, last_type, edges_along, edges_at, before_next}
use Rattle.partition_graph.specs.Marks.{count_in}
use Rattle.partition_graph.specs.Sums.{IsMore, Sums}
use Rattle.partition_graph.specs.Tables.{IsClear, IsCountMore, IsCountOf}
use Rattle.partition_graph.proofs.Counting.{IsCounting}

-- one cell more is counted
pub counting_goes_on : (o t u : Sums) (before next i : ℕ) (cells : List Cell) (c : Cell) → drop i cells ≡ c ∷ drop (i + 1) cells → c.id < MAX_PARTITIONS → IsCounting o t before i cells
    → ((p : ℕ) → p < MAX_PARTITIONS → get_or u.types p 0 ≡ cond (c.id == p) c.typ (get_or t.types p 0))
    → ((p : ℕ) → p < MAX_PARTITIONS → get_or u.sizes p 0 ≡ get_or t.sizes p 0 + cond (c.id == p) 1 0)
    → ((p q : ℕ) → p < MAX_PARTITIONS → q < MAX_PARTITIONS → count_in u.counts p q ≡ count_in t.counts p q + edges_at before c p q)
    → next ≡ before_next c → IsCounting o u next (i + 1) cells
counting_goes_on o t u before next i cells c rest id k typed sized counted is_next =
    let low : before_next c < MAX_PARTITIONS = elim c.last as (λ b. cond {A = ℕ} b INITIAL c.id < MAX_PARTITIONS) [ true ↦ omega arith | false ↦ id ] in
    record {
      known = omega (arith, low, is_next);
      types = λ p m.
          ap (λ n. last_type p n (drop (i + 1) cells)) (typed p m)
          ∙ sym (ap (λ (cs : List Cell). last_type p (get_or t.types p 0) cs) rest) ∙ k.types p m;
      sizes = λ p m.
          let parts : cells_with p (drop i cells) ≡ cond {A = ℕ} (c.id == p) 1 0 + cells_with p (drop (i + 1) cells) = ap (λ (cs : List Cell). cells_with p cs) rest in
          omega (arith, parts, sized p m, k.sizes p m);
      counts = λ p q m n.
          let parts : edges_along before (drop i cells) p q ≡ edges_at before c p q + edges_along (before_next c) (drop (i + 1) cells) p q = ap (λ (cs : List Cell). edges_along before cs p q) rest in
          let follows : edges_along next (drop (i + 1) cells) p q ≡ edges_along (before_next c) (drop (i + 1) cells) p q = ap (λ b. edges_along b (drop (i + 1) cells) p q) is_next in
          omega (arith, parts, follows, counted p q m n, k.counts p q m n);
    }

-- all cells are counted
pub counting_ends : (o t : Sums) (before i : ℕ) (cells : List Cell) → length cells ≤ i → IsCounting o t before i cells → IsMore o t cells
counting_ends o t before i cells past k =
    let none : drop i cells ≡ [] = drop_all i cells past in
    record {
      types = λ p l. sym (ap (λ (cs : List Cell). last_type p (get_or t.types p 0) cs) none) ∙ k.types p l;
      sizes = λ p l. (let left : cells_with p (drop i cells) ≡ 0 = ap (λ (cs : List Cell). cells_with p cs) none in omega (arith, left, k.sizes p l));
      counts = λ p q l m. (let left : edges_along before (drop i cells) p q ≡ 0 = ap (λ (cs : List Cell). edges_along before cs p q) none in omega (arith, left, k.counts p q l m));
    }

-- beside nothing, only these cells are counted
pub counted-alone : (o t : Tables) (cells : List Cell) → IsClear o → IsCountMore o t cells → IsCountOf t cells
counted-alone o t cells clear more =
    record {
      types = λ p l. more.types p l ∙ ap (λ n. last_type p n cells) (clear.types p l);
      sizes = λ p l. omega (arith, more.sizes p l, clear.sizes p l);
      counts = λ p q l m. omega (arith, more.counts p q l m, clear.counts p q l m);
    }
