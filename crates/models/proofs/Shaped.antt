-- The model of a log within the limits is well shaped.
use Rattle.std.proofs.Common.{◌≡◌, ℕ, suc, ◌+◌, ◌<◌, ◌≤◌, ◌==◌, ◌&&◌, not, Bool, true, false, cond, List, [], ◌∷◌, ◌++◌, map, filter, length, slice_get, Some, sym, ◌∙◌, refl, ap, subst, subst₂, inl, inr, arith, le-ltb, lt-ltb, count_by, sum_by, length-append, add-zero}
use Rattle.std.proofs.lemmas.Bool.{cases_Bool, and_parts}
use Rattle.std.proofs.lemmas.Option.{slice_get_within}
use Rattle.std.proofs.lemmas.List.{length-map}
use Rattle.std.proofs.lemmas.List.Sums.{length-filter, sum_by-cons, count_by-le-length}
use Rattle.std.specs.List.{AllByRecursion, range_with_len}
use Rattle.std.specs.Prelude.{Contains}
use Rattle.invariants.specs.declared.Invariant.{Invariant}
use Rattle.invariants.specs.declared.Kinds.{Kinds}
use Rattle.invariants.specs.declared.records.Partition.{Partition}
use Rattle.invariants.specs.declared.records.Listed.{Listed}
use Rattle.invariants.specs.declared.records.Split.{Split}
use Rattle.invariants.specs.declared.records.Merge.{Merge}
use Rattle.invariants.specs.declared.records.Block.{Block}
use Rattle.invariants.specs.declared.records.Model.{Model}
use Rattle.invariants.specs.Candidates.{candidates_for}
use Rattle.invariants.specs.Mined.{holds_of_all}
use Rattle.partition_model.specs.Graphs.{Graph, Walk, IsPath, Satisfies, IsLeastViolation, IsFormed, Merged}
use Rattle.partition_model.specs.Assignments.{Event, Assignment, events, G, IsTyped, type_of, types_of, ids_of, id_list, pairs, edge_count, size, members, is_live, by_type, inner_words, with_ends}
use Rattle.partition_model.specs.Listings.{AreBelow, ArePartitions, partition_of, partitions_below}
use Rattle.partition_model.specs.Refinement.{Splits, Refines, after_split, stitch}
use Rattle.partition_model.specs.Coarsening.{merge, Coarsens, IsBlock, AreBlocks}
use Rattle.partition_model.specs.Laws.{IsRun, HoldAll, Divides, Keeps}
use Rattle.partition_model.proofs.Lists.{In, In-map, map-In, In-events, events-In, all_in, all_from, count-member, edge_count-cons}
use Rattle.partition_model.proofs.Listing.{Contains-In, In-filter, are_partitions, live-below}
use Rattle.partition_model.proofs.Passes.{live-member}
use Rattle.partition_model.proofs.Forming.{graphs_are_formed, merged_are_formed}
use Rattle.partition_model.proofs.Stitching.{stitch_divides}
use Rattle.partition_model.proofs.Runs.{broken, traces-hold, fresh-run, next-run, start-run, runs_keep}
use Rattle.model_shape.specs.Numbers.{split_numbers, block_numbers}
use Rattle.partition_bounds.proofs.Ordered.{In-get}
use Rattle.partition_bounds.proofs.Pairing.{range-count}
use Rattle.partition_bounds.proofs.Merges.{In-range, merge-below, merges-below, merges_are_few}
use Rattle.models.specs.Models.{TypedWords, mined_of, graph_of, AreReached, IsModelOf}
use Rattle.models.specs.Laws.{IsTypedLog, ModelsAreShaped}
use Rattle.models.proofs.Agreeing.{IsEdgeOf, each-edge, Agrees, agrees}
use Rattle.models.proofs.Unique.{one-partitions}
use Rattle.models.proofs.Valid.{mined-hold, end-Keeps}
use Rattle.model_shape.specs.Shapes.{listing_of, end_of, AreTypes, IsEventPartition, AreShapedPartitions, IsShapedEdge, AreShapedEdges, IsShapedListed, AreShapedInvariants, IsShapedMerge, AreShapedMerges, AreIds, IsShapedSplit, IsShapedBlock}
use Rattle.model_shape.specs.Ascending.{Ascends, CandidateBefore}
use Rattle.models.proofs.Among.{AscendAmong, ids-ascend, edges-ascend, blocks-ascend, candidates-ascend}

-- a walk goes through ids below the limit, where all that are listed are below it
walk-ids : (g : Graph) (p : ℕ) (xs : List ℕ) (q : ℕ) → IsFormed g → ((u : ℕ) → g.listed u ≡ true → u < 1024) → Walk g p xs q → AreIds xs
walk-ids g p [] q f b w = tt
walk-ids g p (x ∷ xs) q f b w = (b x (f.between p x w.0).1, walk-ids g x xs q f b w.1)

-- a path goes through ids below the limit, where all that are listed are below it
path-ids : (g : Graph) (path : List ℕ) → IsFormed g → ((u : ℕ) → g.listed u ≡ true → u < 1024) → IsPath g path → AreIds path
path-ids g [] f b i = tt
path-ids g (x ∷ xs) f b i = ((let e : x ≡ 0 = i.0 in omega arith), walk-ids g x xs 1 f b i.1)

-- an assignment has as many events as its words
events-count : (h : Assignment) → length (events h) ≡ sum_by (λ w. length w) (inner_words h)
events-count [] = refl
events-count (t ∷ h) =
    let i : length (events h) ≡ sum_by (λ w. length w) (inner_words h) = events-count h in
    let a : length (t ++ events h) ≡ length t + length (events h) = length-append t (events h) in
    let b : length (types_of t) ≡ length t = length-map t (λ (e : Event). e.typ) in
    let s : sum_by (λ w. length w) (types_of t ∷ inner_words h) ≡ length (types_of t) + sum_by (λ w. length w) (inner_words h) = sum_by-cons (λ (w : List ℕ). length w) (types_of t) (inner_words h) in
    omega arith

-- an event of a word is one of the assignment by types, with the number of its type as its id
typed-In : (words : List (List ℕ)) (w : List ℕ) (x : ℕ) → In w words → In x w → In (record { typ = x; id = x }) (events (by_type words))
typed-In words w x i j =
    In-events (record { typ = x; id = x }) (map (λ (t : ℕ). record { typ = t; id = t }) w) (by_type words)
    (map-In (λ (v : List ℕ). map (λ (t : ℕ). record { typ = t; id = t }) v) w words i) (map-In (λ (t : ℕ). record { typ = t; id = t }) x w j)

-- the number is that of a type, and below the bound
abbrev IsTypeBelow : ℕ → ℕ → Type 0
IsTypeBelow n t = (2 ≤ t) × (t < n)

-- each event has the number of a type of the log
type-range : (log : TypedWords) (h : Assignment) (e : Event) → IsTypedLog log → inner_words h ≡ log.words → In e (events h) → IsTypeBelow (length log.types + 2) e.typ
type-range log h e t ws i =
    let o : (trace : List Event) × In trace h × In e trace = events-In e h i in
    let w : In (types_of o.0) log.words = subst (λ (vs : List (List ℕ)). In (types_of o.0) vs) ws (map-In types_of o.0 h o.1) in
    let x : In e.typ (types_of o.0) = map-In (λ (d : Event). d.typ) e o.0 o.2 in
    all_in (λ d. (2 ≤ d.typ) × (d.typ < length log.types + 2)) (record { typ = e.typ; id = e.typ }) (events (by_type log.words)) t.range (typed-In log.words (types_of o.0) e.typ w x)

-- the partitions of events, those of the ids from 2 on
abbrev inner-of : Assignment → ℕ → List Partition
inner-of h j = map (partition_of h) (filter (is_live h) (range_with_len 2 j))

-- the first two partitions of an assignment are the ends
first-two : (h : Assignment) (j : ℕ) → partitions_below (suc (suc j)) h ≡ end_of 0 (length h) ∷ end_of 1 (length h) ∷ inner-of h j
first-two h j = refl

-- there are no more partitions of events than ids below the bound
inner-short : (h : Assignment) (j : ℕ) → length (inner-of h j) ≤ j
inner-short h j =
    let a : length (map (partition_of h) (filter (is_live h) (range_with_len 2 j))) ≡ length (filter (is_live h) (range_with_len 2 j)) = length-map (filter (is_live h) (range_with_len 2 j)) (partition_of h) in
    let b : length (filter (is_live h) (range_with_len 2 j)) ≡ count_by (is_live h) (range_with_len 2 j) = length-filter (is_live h) (range_with_len 2 j) in
    let c : count_by (is_live h) (range_with_len 2 j) ≤ length (range_with_len 2 j) = count_by-le-length (is_live h) (range_with_len 2 j) in
    let d : length (range_with_len 2 j) ≡ j = range-count 2 j in
    omega arith

-- the size of a partition of events is the number of its events
high-size : (h : Assignment) (p : ℕ) → 2 ≤ p → size h p ≡ members h p
high-size h p l = rw (le-ltb p 2 l) refl

-- a live id of events has a partition with the type and the size that are asked for
event-partition : (log : TypedWords) (h : Assignment) (j p : ℕ) → IsTypedLog log → inner_words h ≡ log.words → IsTyped h → sum_by (λ w. length w) log.words ≤ 1000000 → j ≤ 1022
    → 2 ≤ p → p < 2 + j → is_live h p ≡ true → IsEventPartition (length log.types) (partition_of h p)
event-partition log h j p t ws ty few jl l u k =
    let o : (e : Event) × In e (events h) × (e.id ≡ p) = live-member h p l k in
    let r : IsTypeBelow (length log.types + 2) o.0.typ = type-range log h o.0 t ws o.1 in
    let tt2 : (2 ≤ o.0.id) × (o.0.typ ≡ type_of h o.0.id) = all_in (λ e. (2 ≤ e.id) × (e.typ ≡ type_of h e.id)) o.0 (events h) ty o.1 in
    let same : o.0.typ ≡ type_of h p = tt2.1 ∙ ap (λ (x : ℕ). type_of h x) o.2 in
    let r0 : 2 ≤ o.0.typ = r.0 in
    let r1 : o.0.typ < length log.types + 2 = r.1 in
    let s : size h p ≡ members h p = high-size h p l in
    let c : 0 < members h p = count-member p o.0 (events h) o.1 o.2 in
    let d : members h p ≤ length (events h) = count_by-le-length (λ (e : Event). e.id == p) (events h) in
    let e : length (events h) ≡ sum_by (λ w. length w) (inner_words h) = events-count h in
    let f : sum_by (λ w. length w) (inner_words h) ≡ sum_by (λ w. length w) log.words = ap (λ (vs : List (List ℕ)). sum_by (λ w. length w) vs) ws in
    record { id = omega arith; type_low = omega arith; type_high = omega arith; some = omega arith; few = omega arith }

-- the partitions of the model of a log are well shaped
shaped-partitions : (m : Model) (log : TypedWords) (h : Assignment) (j : ℕ) → IsTypedLog log → inner_words h ≡ log.words → IsTyped h → length log.words ≤ 1000000 → sum_by (λ w. length w) log.words ≤ 1000000 → j ≤ 1022
    → AreBelow (suc (suc j)) h → ArePartitions m.partitions h → AreShapedPartitions (length log.types) m.partitions
shaped-partitions m log h j t ws ty traces few jl b a =
    let e : m.partitions ≡ end_of 0 (length h) ∷ end_of 1 (length h) ∷ inner-of h j =
    one-partitions h m.partitions (partitions_below (suc (suc j)) h) a (are_partitions h (suc (suc j)) (omega arith) b) ∙ first-two h j in
    let c : length (inner-of h j) ≤ j = inner-short h j in
    let d : length m.partitions ≡ suc (suc (length (inner-of h j))) = ap length e in
    let f : length (inner_words h) ≡ length h = length-map h types_of in
    let g : length (inner_words h) ≡ length log.words = ap length ws in
    record {
      traces = length h;
      inner = inner-of h j;
      ends = e;
      few = omega arith;
      few_traces = omega arith;
      order = ids-ascend 0 m.partitions a.order;
      each = all_from (IsEventPartition (length log.types)) (inner-of h j) (λ x i.
          let v : (p : ℕ) × In p (filter (is_live h) (range_with_len 2 j)) × (partition_of h p ≡ x) = In-map (partition_of h) x (filter (is_live h) (range_with_len 2 j)) i in
          let w : In v.0 (range_with_len 2 j) × (is_live h v.0 ≡ true) = In-filter (is_live h) v.0 (range_with_len 2 j) v.1 in
          let r : (2 ≤ v.0) × (v.0 < 2 + j) = In-range 2 j v.0 w.0 in
          subst (λ (y : Partition). IsEventPartition (length log.types) y) v.2 (event-partition log h j v.0 t ws ty few jl r.0 r.1 w.1));
    }

-- a word has no more neighbours of two ids than places between events
pairs-short : (p q x : ℕ) (xs : List ℕ) → pairs p q (x ∷ xs) ≤ length xs
pairs-short p q x [] =
    elim (cases_Bool (x == p && false)) [
      | inl t ↦ absurd (let z : false ≡ true = (and_parts (x == p) false t).1 in cc)
      | inr f ↦ rw f (omega arith)
    ]
pairs-short p q x (y ∷ ys) =
    let i : pairs p q (y ∷ ys) ≤ length ys = pairs-short p q y ys in
    elim (cases_Bool (x == p && y == q)) [
      | inl t ↦ rw t (omega (arith, i))
      | inr f ↦ rw f (omega (arith, i))
    ]

-- the count of an edge is at most the number of events and of words
edge-short : (h : Assignment) (p q : ℕ) → edge_count h p q ≤ length (events h) + length h
edge-short [] p q = omega arith
edge-short (t ∷ h) p q =
    let i : edge_count h p q ≤ length (events h) + length h = edge-short h p q in
    let c : edge_count (t ∷ h) p q ≡ pairs p q (id_list t) + edge_count h p q = edge_count-cons t h p q in
    let s : pairs p q (id_list t) ≤ length (ids_of t ++ 1 ∷ []) = pairs-short p q 0 (ids_of t ++ 1 ∷ []) in
    let a : length (ids_of t ++ 1 ∷ []) ≡ length (ids_of t) + 1 = length-append (ids_of t) (1 ∷ []) in
    let b : length (ids_of t) ≡ length t = length-map t (λ (e : Event). e.id) in
    let d : length (t ++ events h) ≡ length t + length (events h) = length-append t (events h) in
    omega arith

-- the edges of the model of a log are well shaped
shaped-edges : (m : Model) (log : TypedWords) (k : IsModelOf m log) → inner_words k.end ≡ log.words → IsTyped k.end → Agrees (graph_of m) (G k.end)
    → length log.words ≤ 1000000 → sum_by (λ w. length w) log.words ≤ 1000000 → AreShapedEdges m.partitions m.edges
shaped-edges m log k ws ty ag traces few =
    let f : IsFormed (G k.end) = graphs_are_formed k.end ty in
    let a : length (inner_words k.end) ≡ length k.end = length-map k.end types_of in
    let b : length (inner_words k.end) ≡ length log.words = ap length ws in
    let c : length (events k.end) ≡ sum_by (λ w. length w) (inner_words k.end) = events-count k.end in
    let d : sum_by (λ w. length w) (inner_words k.end) ≡ sum_by (λ w. length w) log.words = ap (λ (vs : List (List ℕ)). sum_by (λ w. length w) vs) ws in
    record {
      order = edges-ascend 0 0 m.edges k.edges.order;
      each = all_from (IsShapedEdge m.partitions) m.edges (λ x i.
          let e : IsEdgeOf k.end x = all_in (IsEdgeOf k.end) x m.edges (each-edge m.edges k.end k.edges) i in
          let e0 : 0 < x.count = e.0 in
          let e1 : x.count ≡ edge_count k.end x.from x.to = e.1 in
          let s : edge_count k.end x.from x.to ≤ length (events k.end) + length k.end = edge-short k.end x.from x.to in
          let g : (G k.end).edge x.from x.to ≡ true = lt-ltb 0 (edge_count k.end x.from x.to) (omega arith) in
          let l : ((G k.end).listed x.from ≡ true) × ((G k.end).listed x.to ≡ true) = f.between x.from x.to g in
          record {
            has_from = ag.listed x.from ∙ l.0;
            has_to = ag.listed x.to ∙ l.1;
            not_from_end = λ q. f.none_out_of_end x.to (subst (λ (z : ℕ). (G k.end).edge z x.to ≡ true) q g);
            not_to_start = λ q. f.none_into_start x.from (subst (λ (z : ℕ). (G k.end).edge x.from z ≡ true) q g);
            some = omega arith;
            few = omega arith;
          });
    }

-- what ascends from a candidate on ascends from a lower one on
ascend-lower : (all : List Invariant) (a b : ℕ) (xs : List Invariant) → a ≤ b → AscendAmong all b xs → AscendAmong all a xs
ascend-lower all a b [] l s = tt
ascend-lower all a b (x ∷ xs) l s = (s.0, (let k : b ≤ s.0 = s.1 in omega arith), s.2, s.3)

-- what passes of the candidates ascends among them
ascend-filter : (p : Invariant → Bool) (all xs : List Invariant) (low : ℕ) → ((j : ℕ) → slice_get all (low + j) ≡ slice_get xs j) → AscendAmong all low (filter p xs)
ascend-filter p all [] low f = tt
ascend-filter p all (x ∷ xs) low f =
    let at : slice_get all low ≡ Some x = subst (λ (z : ℕ). slice_get all z ≡ Some x) (add-zero low) (f 0) in
    let i : AscendAmong all (suc low) (filter p xs) =
    ascend-filter p all xs (suc low) (λ j. (let q : low + suc j ≡ suc low + j = omega arith in subst (λ (z : ℕ). slice_get all z ≡ slice_get xs j) q (f (suc j)))) in
    elim (cases_Bool (p x)) [
      | inl t ↦ subst (λ (b : Bool). AscendAmong all low (cond b (x ∷ filter p xs) (filter p xs))) (sym t) (low, omega arith, at, i)
      | inr n ↦ subst (λ (b : Bool). AscendAmong all low (cond b (x ∷ filter p xs) (filter p xs))) (sym n) (ascend-lower all low (suc low) (filter p xs) (omega arith) i)
    ]

-- the mined invariants ascend among the candidates
mined-ascends : (log : TypedWords) → AscendAmong (candidates_for log.kinds (length log.types)) 0 (mined_of log)
mined-ascends log = ascend-filter (holds_of_all (map with_ends log.words)) (candidates_for log.kinds (length log.types)) (candidates_for log.kinds (length log.types)) 0 (λ j. ap (slice_get (candidates_for log.kinds (length log.types))) (omega arith))

-- each mined invariant is a candidate
mined-candidate : (log : TypedWords) (inv : Invariant) → In inv (mined_of log) → Contains (candidates_for log.kinds (length log.types)) inv
mined-candidate log inv i =
    Contains-In inv (candidates_for log.kinds (length log.types)) (In-filter (holds_of_all (map with_ends log.words)) inv (candidates_for log.kinds (length log.types)) i).0

-- each listed invariant of the model of a log is well shaped
shaped-listed : (m : Model) (log : TypedWords) (k : IsModelOf m log) (l : Listed) → In l m.invariants → IsShapedListed m.kinds (length m.types) (length m.partitions) l
shaped-listed m log k l i =
    let r : AreReached l.inv k.end m.partitions l.labels = all_in (λ l. AreReached l.inv k.end m.partitions l.labels) l m.invariants k.labels i in
    let c : In l.inv (mined_of log) = subst (λ (xs : List Invariant). In l.inv xs) k.listing (map-In (λ (x : Listed). x.inv) l m.invariants i) in
    record {
      candidate = subst₂ (λ (kinds : Kinds) (ts : List (List ℕ)). Contains (candidates_for kinds (length ts)) l.inv) (sym k.kinds) (sym k.types) (mined-candidate log l.inv c);
      count = r.count;
      labels = r.each;
    }

-- the listed invariants of the model of a log are well shaped
shaped-invariants : (m : Model) (log : TypedWords) → IsModelOf m log → AreShapedInvariants m.kinds (length m.types) (length m.partitions) m.invariants
shaped-invariants m log k =
    let a : AscendAmong (candidates_for log.kinds (length log.types)) 0 (listing_of m) = subst (λ (xs : List Invariant). AscendAmong (candidates_for log.kinds (length log.types)) 0 xs) (sym k.listing) (mined-ascends log) in
    let b : Ascends (CandidateBefore log.kinds (length log.types)) (listing_of m) = candidates-ascend log.kinds (length log.types) 0 (listing_of m) a in
    record {
      order = subst₂ (λ (kinds : Kinds) (ts : List (List ℕ)). Ascends (CandidateBefore kinds (length ts)) (listing_of m)) (sym k.kinds) (sym k.types) b;
      each = all_from (IsShapedListed m.kinds (length m.types) (length m.partitions)) m.invariants (shaped-listed m log k);
    }

-- each merge of coarsening is well shaped
each-merge : (invs : List Invariant) (ms : List Merge) (h end : Assignment) (n : ℕ) → 2 ≤ n → n ≤ 1024 → AreBelow n h → Coarsens invs h ms end → AllByRecursion IsShapedMerge ms
each-merge invs [] h end n l k b c = tt
each-merge invs (m ∷ ms) h end n l k b c =
    let u : m.q < n = live-below h n m.q l b c.0.pair.has_q in
    (record { order = c.0.pair.order; high = omega arith }, each-merge invs ms (merge m.p m.q h) end n l k (merge-below h n m.p m.q l b c.0.pair) c.1)

-- the merges of coarsening are well shaped
shaped-merges : (invs : List Invariant) (ms : List Merge) (h end : Assignment) (n : ℕ) → 2 ≤ n → n ≤ 1024 → AreBelow n h → Coarsens invs h ms end → AreShapedMerges ms
shaped-merges invs ms h end n l k b c =
    let f : length ms + 2 ≤ n = merges_are_few invs h ms end n l b c in
    record { few = omega arith; each = each-merge invs ms h end n l k b c }

-- each split of refinement is well shaped
each-split : (words : List (List ℕ)) (invs : List Invariant) (ss : List Split) (h : Assignment) (n : ℕ) (end : Assignment) → IsRun words h n → 2 ≤ n → HoldAll words invs → n + length ss ≤ 1024
    → Refines invs h n ss end → AllByRecursion (IsShapedSplit (length invs)) ss
each-split words invs [] h n end r l a lim w = tt
each-split words invs (s ∷ ss) h n end r l a lim w =
    let b : (inv : Invariant) × (slice_get invs s.inv ≡ Some inv) × (Satisfies (G h) inv → ⊥) = broken (G h) invs s.inv w.0.first in
    let v : IsLeastViolation (G h) b.0 s.path = w.0.least b.0 b.1 in
    let d : Divides h s.path n = stitch_divides h b.0 s.path n r.typed (fresh-run words h n r l) (traces-hold words h n b.0 invs s.inv r a b.1) v.breaks in
    let r' : IsRun words (after_split n s h) (n + 1) = next-run words invs h n s b.0 r l a b.1 v w.0.place in
    let x : n + 1 ≡ suc n = omega arith in
    let pl : s.place ≡ stitch h s.path = w.0.place in
    let be : stitch h s.path + 1 < length s.path = d.before_end in
    let f : IsFormed (G h) = graphs_are_formed h r.typed in
    let ids : (u : ℕ) → (G h).listed u ≡ true → u < 1024 = λ u k. (let y : u < n = live-below h n u l r.below k in omega arith) in (
      record { names = slice_get_within invs s.inv b.0 b.1; place = omega arith; path = path-ids (G h) s.path f ids v.breaks.0 },
      each-split words invs ss (after_split n s h) (suc n) end (subst (λ (k : ℕ). IsRun words (after_split n s h) k) x r') (omega arith) a (omega arith) w.1,
    )

-- the splits of refinement are splits one after another
refines-splits : (invs : List Invariant) (ss : List Split) (h : Assignment) (n : ℕ) (end : Assignment) → Refines invs h n ss end → Splits invs h n ss end
refines-splits invs [] h n end w = w.1
refines-splits invs (s ∷ ss) h n end w = (w.0, refines-splits invs ss (after_split n s h) (suc n) end w.1)

-- each block of an assignment is well shaped
each-block : (m : Model) (h : Assignment) (invs : List Invariant) (n : ℕ) (b : Block) → 2 ≤ n → n ≤ 1024 → IsTyped h → AreBelow n h → Agrees (graph_of m) (G h) → IsBlock invs (G h) b
    → IsShapedBlock (length invs) m.partitions b
each-block m h invs n b l k ty below ag i =
    let f : IsFormed (G h) = graphs_are_formed h ty in
    let low : 2 ≤ b.p = i.pair.low in
    let mf : IsFormed (Merged (G h) b.p b.q) = (merged_are_formed (G h) b.p b.q f i.pair.low i.pair.order i.pair.has_p).0 in
    let o : (inv : Invariant) × (slice_get invs b.inv ≡ Some inv) × (Satisfies (Merged (G h) b.p b.q) inv → ⊥) = broken (Merged (G h) b.p b.q) invs b.inv i.first in
    let v : IsLeastViolation (Merged (G h) b.p b.q) o.0 b.path = i.least o.0 o.1 in
    let ids : (u : ℕ) → (Merged (G h) b.p b.q).listed u ≡ true → u < 1024 =
    λ u t. (let y : u < n = live-below h n u l below (and_parts (not (u == b.q)) ((G h).listed u) t).1 in omega arith) in
    record {
      order = i.pair.order;
      has_p = ag.listed b.p ∙ i.pair.has_p;
      has_q = ag.listed b.q ∙ i.pair.has_q;
      types = ag.types b.p i.pair.has_p ∙ i.pair.types ∙ sym (ag.types b.q i.pair.has_q);
      names = slice_get_within invs b.inv o.0 o.1;
      path = path-ids (Merged (G h) b.p b.q) b.path mf ids v.breaks.0;
    }

-- each block of the list is one of the graph
block-of : (invs : List Invariant) (g : Graph) (xs : List Block) → AreBlocks invs g xs → (z : Block) → In z xs → IsBlock invs g z
block-of invs g xs a z i = let r : (k : ℕ) × (slice_get xs k ≡ Some z) = In-get z xs i in a.each r.0 z r.1

-- the model of a log within the limits is well shaped
pub models_are_shaped : ModelsAreShaped
models_are_shaped m log t w lim k =
    let lt : length m.types ≡ length log.types = ap length k.types in
    let ids : length m.types + 2 + length m.splits ≤ 1024 = lim.ids in
    let jl : length log.types + length m.splits ≤ 1022 = omega arith in
    let nj : length log.types + 2 + length m.splits ≡ suc (suc (length log.types + length m.splits)) = omega arith in
    let hold : HoldAll log.words (mined_of log) = mined-hold log in
    let r1 : IsRun log.words k.refined (length log.types + 2 + length m.splits) =
    runs_keep (mined_of log) log.words (length log.types + 2) m.splits k.refined t hold (refines-splits (mined_of log) m.splits (by_type log.words) (length log.types + 2) k.refined k.splits) in
    let b1 : AreBelow (suc (suc (length log.types + length m.splits))) k.refined = subst (λ (n : ℕ). AreBelow n k.refined) nj r1.below in
    let b2 : AreBelow (suc (suc (length log.types + length m.splits))) k.end = merges-below (mined_of log) m.merges k.refined k.end (suc (suc (length log.types + length m.splits))) (omega arith) b1 k.merges in
    let ke : Keeps (mined_of log) log.words k.end = end-Keeps m log t k in
    let ag : Agrees (graph_of m) (G k.end) = agrees m k.end ke.typed k.partitions k.edges in
    let li : length (listing_of m) ≡ length m.invariants = length-map m.invariants (λ (l : Listed). l.inv) in
    let le : length (listing_of m) ≡ length (mined_of log) = ap length k.listing in
    let ln : length (mined_of log) ≡ length m.invariants = sym le ∙ li in
    let ss : AllByRecursion (IsShapedSplit (length (mined_of log))) m.splits =
    each-split log.words (mined_of log) m.splits (by_type log.words) (length log.types + 2) k.refined (start-run log.words (length log.types + 2) t) t.two hold (omega arith) k.splits in
    let bs : AllByRecursion (IsShapedBlock (length (mined_of log)) m.partitions) m.blocks =
    all_from (IsShapedBlock (length (mined_of log)) m.partitions) m.blocks (λ b i.
    each-block m k.end (mined_of log) (suc (suc (length log.types + length m.splits))) b (omega arith) (omega arith) ke.typed b2 ag (block-of (mined_of log) (G k.end) m.blocks k.blocks b i)) in
    let nums : split_numbers m.splits + block_numbers m.blocks ≤ 4000000 = lim.numbers in
    record {
      types = subst (λ (ts : List (List ℕ)). AreTypes ts) (sym k.types) w.types;
      partitions = subst (λ (n : ℕ). AreShapedPartitions n m.partitions) (sym lt)
          (shaped-partitions m log k.end (length log.types + length m.splits) t ke.words_are ke.typed w.few_traces w.few_events jl b2 k.partitions);
      edges = shaped-edges m log k ke.words_are ke.typed ag w.few_traces w.few_events;
      invariants = shaped-invariants m log k;
      merges = shaped-merges (mined_of log) m.merges k.refined k.end (suc (suc (length log.types + length m.splits))) (omega arith) (omega arith) b1 k.merges;
      splits = record {
        few = omega arith;
        each = subst (λ (n : ℕ). AllByRecursion (IsShapedSplit n) m.splits) ln ss;
        numbers = omega arith;
      };
      blocks = record {
        order = blocks-ascend 0 0 m.blocks k.blocks.order;
        each = subst (λ (n : ℕ). AllByRecursion (IsShapedBlock n m.partitions) m.blocks) ln bs;
        numbers = lim.numbers;
      };
    }
