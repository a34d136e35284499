-- The model of a run that has ended.
use Rattle.std.proofs.Common.{◌≡◌, ◌↔◌, ℕ, zero, suc, ◌+◌, ◌<◌, ◌≤◌, Bool, true, false, List, [], ◌∷◌, ◌++◌, append_assoc, map, filter, take, get_or, length, slice_get, Some, sym, ◌∙◌, ap, subst, subst₂, add-one, arith}
use Rattle.std.proofs.Math.Seq.{take-suc}
use Rattle.std.proofs.lemmas.List.{length-map, map-append}
use Rattle.std.specs.List.{All, AllByRecursion}
use Rattle.std.proofs.lemmas.List.Elements.{All-from_recursion}
use Rattle.limits.specs.declared.TheConstants.{MAX_PARTITIONS, MAX_PATH_NUMBERS}
use Rattle.invariants.specs.declared.Invariant.{Invariant}
use Rattle.invariants.specs.declared.Kinds.{Kinds}
use Rattle.invariants.specs.declared.records.Partition.{Partition}
use Rattle.invariants.specs.declared.records.Listed.{Listed}
use Rattle.invariants.specs.declared.records.Split.{Split}
use Rattle.invariants.specs.declared.records.Merge.{Merge}
use Rattle.invariants.specs.declared.records.Block.{Block}
use Rattle.invariants.specs.declared.records.Model.{Model}
use Rattle.cell_pool.specs.Numbers.{Numbers}
use Rattle.cell_pool.specs.RunLists.{RunLists}
use Rattle.run_history.specs.Records.{splits_of}
use Rattle.traces.specs.Words.{Log}
use Rattle.invariants.specs.Labels.{IsLabel}
use Rattle.model_shape.specs.Numbers.{split_numbers, block_numbers}
use Rattle.partition_model.specs.Assignments.{Assignment, G, is_live}
use Rattle.partition_model.specs.Labels.{Reached}
use Rattle.partition_model.specs.Listings.{ids_below, partition_of, partitions_below, parts_of, ArePartitions}
use Rattle.partition_model.specs.Refinement.{IsRefined}
use Rattle.partition_model.specs.Coarsening.{AreBlocks, Coarsens}
use Rattle.partition_model.proofs.Lists.{In, In-map}
use Rattle.partition_model.proofs.Listing.{In-filter}
use Rattle.partition_bounds.proofs.Merges.{In-range}
use Rattle.partition_bounds.proofs.Ordered.{get-In}
use Rattle.models.specs.Models.{has_state, mined_of, typed_words, AreReached, IsModelOf}
use Rattle.models.specs.Histories.{first_new}
use Rattle.models.specs.Limits.{KeepsLimits}
use Rattle.models.proofs.Listed.{numbers_give_labels}
use Rattle.partition_graph.specs.Parts.{Parts}
use Rattle.labelling.specs.Labelled.{Labelling, AreLabelsOf, digit, is_found, number_of}
use Rattle.infer_core.specs.Runs.{AreFinal}
use Rattle.infer_core.specs.Ends.{HasEnded, IsPlaced}
use Rattle.infer_core.specs.Workbenches.{Tells}

-- the ids of the listed partitions are below the bound
pub listed-below : (n : ℕ) (h : Assignment) (k : ℕ) (x : Partition) → slice_get (partitions_below n h) k ≡ Some x → x.id < n
listed-below n h k x at =
    let o : (p : ℕ) × In p (filter (is_live h) (ids_below n)) × (partition_of h p ≡ x) =
    In-map (partition_of h) x (filter (is_live h) (ids_below n)) (get-In (partitions_below n h) k x at) in
    let f : In o.0 (ids_below n) × (is_live h o.0 ≡ true) = In-filter (is_live h) o.0 (ids_below n) o.1 in
    let r : (0 ≤ o.0) × (o.0 < 0 + n) = In-range 0 n o.0 f.0 in
    let e : o.0 ≡ x.id = ap (λ (y : Partition). y.id) o.2 in
    omega (arith, r.1)

-- labels that are read place by place
at-map : (f : Partition → ℕ) (xs : List Partition) (k : ℕ) (x : Partition) → slice_get xs k ≡ Some x → slice_get (map f xs) k ≡ Some (f x)
at-map f [] k x e = absurd cc
at-map f (y ∷ xs) zero x e = let same : y ≡ x = cc in ap (λ (z : Partition). Some (f z)) same
at-map f (y ∷ xs) (suc k) x e = at-map f xs k x e

each-small : (f : Partition → ℕ) (xs : List Partition) → ((x : Partition) → f x ≤ 7) → AllByRecursion IsLabel (map f xs)
each-small f [] small = tt
each-small f (x ∷ xs) small = (small x, each-small f xs small)

number-small : (zeroth first second : Bool) → number_of zeroth first second ≤ 7
number-small true true true = omega arith
number-small true true false = omega arith
number-small true false true = omega arith
number-small true false false = omega arith
number-small false true true = omega arith
number-small false true false = omega arith
number-small false false true = omega arith
number-small false false false = omega arith

-- what is read place by place are labels
pub digits-small : (labels : Labelling) (k : ℕ) (partitions : List Partition) → All IsLabel (map (λ x. digit labels k x.id) partitions)
digits-small labels k partitions =
    All-from_recursion IsLabel (map (λ x. digit labels k x.id) partitions) (each-small (λ x. digit labels k x.id) partitions
    (λ x. number-small (is_found labels k x.id 0) (is_found labels k x.id 1) (is_found labels k x.id 2)))

-- the labels say which states are reached at each partition
pub labels-reached : (labels : Labelling) (h : Assignment) (partitions : List Partition) (k : ℕ) (inv : Invariant) → ArePartitions partitions h → AreLabelsOf labels (G h)
    → slice_get labels.invs k ≡ Some inv → ((j : ℕ) (x : Partition) → slice_get partitions j ≡ Some x → x.id < MAX_PARTITIONS)
    → AreReached inv h partitions (map (λ x. digit labels k x.id) partitions)
labels-reached labels h partitions k inv a l at ids =
    let f : Partition → ℕ = λ x. digit labels k x.id in
    numbers_give_labels inv h partitions (map f partitions) a (record {
      count = length-map partitions f;
      each = each-small f partitions (λ x. l.small k x.id);
      states = λ j x number s there numbered low.
          let same : Some (f x) ≡ Some number = sym (at-map f partitions j x there) ∙ numbered in
          let e : digit labels k x.id ≡ number = cc in
          subst (λ (n : ℕ). (has_state n s ≡ true) ↔ Reached inv (G h) x.id s) e (l.states k inv x.id s at (ids j x there) low);
    })

-- one listed invariant more
pub listing-more : (list : List Listed) (front invs : List Invariant) (number : ℕ) (d : Invariant) (labels : List ℕ) → number < length invs → map (λ x. x.inv) list ≡ front ++ take number invs
    → map (λ (x : Listed). x.inv) (list ++ record { inv = get_or invs number d; labels = labels } ∷ []) ≡ front ++ take (number + 1) invs
listing-more list front invs number d labels l e =
    let x : Listed = record { inv = get_or invs number d; labels = labels } in
    let t : take (number + 1) invs ≡ take number invs ++ get_or invs number d ∷ [] = ap (λ (n : ℕ). take n invs) (add-one number) ∙ take-suc invs number d l in
    map-append (λ (y : Listed). y.inv) list (x ∷ []) ∙ ap (λ (xs : List Invariant). xs ++ get_or invs number d ∷ []) e ∙ append_assoc front (take number invs) (get_or invs number d ∷ []) ∙ ap (λ (xs : List Invariant). front ++ xs) (sym t)

-- it is the model of the log
pub told-model : (m : Model) (kinds : Kinds) (log : Log) (invs : List Invariant) (graph : Parts) (spans : Numbers) (run : RunLists)
    → invs ≡ mined_of (typed_words kinds log) → HasEnded (typed_words kinds log) graph spans run → Tells m kinds log invs graph spans run → IsModelOf m (typed_words kinds log)
told-model m kinds log invs graph spans run i e t = record {
  types = t.types;
  kinds = t.kinds;
  refined = e.refined;
  end = graph.traces;
  splits = subst (λ (ss : List Split). IsRefined (mined_of (typed_words kinds log)) (length log.types) (typed_words kinds log).words ss e.refined) (sym t.splits) e.refines;
  merges = subst (λ (ms : List Merge). Coarsens (mined_of (typed_words kinds log)) e.refined ms graph.traces) (sym t.merges) e.coarsens;
  partitions = t.partitions;
  edges = t.edges;
  listing = t.listing ∙ i;
  labels = t.labels;
  blocks = subst (λ (bs : List Block). AreBlocks (mined_of (typed_words kinds log)) (G graph.traces) bs) (sym t.blocks) e.blocks;
}

-- within the limits
pub told-keeps : (m : Model) (kinds : Kinds) (log : Log) (invs : List Invariant) (graph : Parts) (spans : Numbers) (run : RunLists)
    → HasEnded (typed_words kinds log) graph spans run → Tells m kinds log invs graph spans run → KeepsLimits m
told-keeps m kinds log invs graph spans run e t =
    let n : length m.types ≡ length log.types = ap (λ (ts : List (List ℕ)). length ts) t.types in
    let s : length m.splits ≡ length (splits_of run spans) = ap (λ (ss : List Split). length ss) t.splits in
    let l : first_new (typed_words kinds log) + length (splits_of run spans) ≤ MAX_PARTITIONS = e.ids in
    record {
      ids = omega arith;
      numbers = subst₂ (λ (ss : List Split) (bs : List Block). split_numbers ss + block_numbers bs ≤ MAX_PATH_NUMBERS) (sym t.splits) (sym t.blocks) e.numbers;
    }

-- and these are the final ids
pub told-final : (kinds : Kinds) (log : Log) (ids : List ℕ) (graph : Parts) → IsPlaced (typed_words kinds log) graph → ids ≡ parts_of graph.traces → AreFinal (typed_words kinds log) ids
told-final kinds log ids graph e is = record {
  splits = e.splits;
  refined = e.refined;
  refines = e.refines;
  merges = e.merges;
  end = graph.traces;
  coarsens = e.coarsens;
  value = is;
}
