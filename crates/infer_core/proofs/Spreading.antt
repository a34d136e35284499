-- The graph of all traces, and the lists of a graph.
use Rattle.std.proofs.Common.{◌≡◌, ℕ, ◌<◌, ◌≤◌, List, [], length, get_or, Some, Contains, Result, Ok, Err, IfOk, slice_get, slice_index, slice_index_or, sym, ◌∙◌, ap, subst, inl, inr, arith}
use Rattle.std.proofs.lemmas.Bool.{cases_lt}
use Rattle.std.proofs.lemmas.List.{ext_get_or, get_or-map, get_or_default, length-map}
use Rattle.std.proofs.lemmas.List.Elements.{All-get_or}
use Rattle.limits.specs.declared.TheConstants.{FIRST_TYPE, MAX_PARTITIONS}
use Rattle.invariants.specs.declared.records.Partition.{Partition}
use Rattle.invariants.specs.declared.records.Edge.{Edge}
use Rattle.partition_model.specs.Assignments.{Assignment}
use Rattle.partition_model.specs.Listings.{edges_below, partitions_below, AreBelow, AreEdges, ArePartitions}
use Rattle.partition_model.proofs.Listing.{are_edges, are_partitions}
use Rattle.partition_graph.specs.Parts.{Parts}
use Rattle.partition_graph.specs.Spread.{spread, AreAllOf}
use Rattle.infer_core.specs.Workbenches.{whole_of, AreListsOf}
use Rattle.infer_core.proofs.Telling.{listed-below}

-- all traces have a number, each number is that of a trace, and each is that of its place: so there are as many of both
as-many : (ks : List ℕ) (h : Assignment) → AreAllOf ks h → ((k : ℕ) → k < length ks → slice_index ks k ≡ k) → length ks ≡ length h
as-many ks h all o =
    let few : length h ≤ length ks = elim (cases_lt (length ks) (length h)) [
      | inl l ↦
          let c : Contains ks (length ks) = all.whole (length ks) l in
          absurd (let e : get_or ks c.0 (length ks) ≡ get_or ks c.0 0 = get_or_default ks c.0 (length ks) 0 c.1 in
          let i : c.0 ≡ length ks = sym (o c.0 c.1) ∙ sym e ∙ c.2 in
          let l : c.0 < length ks = c.1 in
          omega (arith, i, l))
      | inr l ↦ l
    ] in
    let within : length ks ≤ length h = elim (cases_lt (length h) (length ks)) [
      | inl l ↦
          let d : get_or ks (length h) 0 < length h = All-get_or (λ k. k < length h) ks (length h) 0 l all.within in
          absurd (let e : get_or ks (length h) 0 ≡ length h = o (length h) l in omega (arith, d, e))
      | inr l ↦ l
    ] in
    omega (arith, few, within)

-- and spreading them gives the traces as they are
pub spread-in-order : (ks : List ℕ) (h : Assignment) → AreAllOf ks h → ((k : ℕ) → k < length ks → slice_index ks k ≡ k) → spread ks h ≡ h
spread-in-order ks h all o =
    let n : length ks ≡ length h = as-many ks h all o in
    let m : length (spread ks h) ≡ length ks = length-map ks (λ k. slice_index_or h k []) in
    ext_get_or [] (spread ks h) h (m ∙ n) (λ i l.
    let inside : i < length ks = omega (arith, m, l) in
    get_or-map (λ (k : ℕ). slice_index_or h k []) ks i 0 [] inside ∙ ap (λ (k : ℕ). slice_index_or h k []) (o i inside))

-- so the graph of the distinct words is that of all traces
pub whole-in-order : (ks : List ℕ) (graph : Parts) → AreAllOf ks graph.traces → ((k : ℕ) → k < length ks → slice_index ks k ≡ k) → graph ≡ whole_of ks graph
whole-in-order ks graph all o = ap (λ (h : Assignment). record { traces = h; used = graph.used }) (sym (spread-in-order ks graph.traces all o))

-- the lists of a graph whose ids are below a bound
pub lists-of : (graph : Parts) (partitions : List Partition) (edges : List Edge) → FIRST_TYPE ≤ graph.used → graph.used ≤ MAX_PARTITIONS → AreBelow graph.used graph.traces
    → partitions ≡ partitions_below graph.used graph.traces → edges ≡ edges_below graph.used graph.traces → AreListsOf graph partitions edges
lists-of graph partitions edges two limit below ps es =
    record {
      partitions_are = subst (λ (xs : List Partition). ArePartitions xs graph.traces) (sym ps) (are_partitions graph.traces graph.used two below);
      edges_are = subst (λ (xs : List Edge). AreEdges xs graph.traces) (sym es) (are_edges graph.traces graph.used two below);
      ids = λ k x at.
          let l : x.id < graph.used = listed-below graph.used graph.traces k x (subst (λ (xs : List Partition). slice_get xs k ≡ Some x) ps at) in
          omega (arith, l, limit);
    }

-- what holds of a value for two reasons
pub ok-both : {T E : Type 0} (r : Result T E) (P Q : T → Type 0) → IfOk r P → IfOk r Q → IfOk r (λ x. P x × Q x)
ok-both (Ok x) P Q p q = (p, q)
ok-both (Err e) P Q p q = tt
