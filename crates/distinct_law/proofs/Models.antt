-- The model of a log, counted over the words of another with the same words.
use Rattle.std.proofs.Common.{◌≡◌, ◌↔◌, ℕ, ◌+◌, ◌*◌, List, [], ◌∷◌, map, length, Contains, sum_by, sym, ◌∙◌, refl, ap, ap₂, subst, subst₂, inl, inr}
use Rattle.std.specs.List.{AllByRecursion, flat_map}
use Rattle.invariants.specs.declared.Invariant.{Invariant}
use Rattle.invariants.specs.declared.Kinds.{Kinds}
use Rattle.invariants.specs.declared.records.Partition.{Partition}
use Rattle.invariants.specs.declared.records.Edge.{Edge}
use Rattle.invariants.specs.declared.records.Listed.{Listed}
use Rattle.invariants.specs.declared.records.Model.{Model}
use Rattle.partition_model.specs.Graphs.{Graph, IsPath, word}
use Rattle.partition_model.specs.Assignments.{Assignment, G, IsTyped, by_type, edge_count, id_list, inner_words, pairs, size, types_of, with_ends, word_of}
use Rattle.partition_model.specs.Listings.{parts_of}
use Rattle.partition_model.specs.Refinement.{IsRefined}
use Rattle.partition_model.specs.Coarsening.{merged_by, Coarsens, AreBlocks}
use Rattle.partition_model.specs.Laws.{Keeps}
use Rattle.partition_model.proofs.Lists.{In, In-map, map-In, all_in, all_from}
use Rattle.partition_model.proofs.Listing.{In-Contains}
use Rattle.partition_model.proofs.Following.{follows}
use Rattle.partition_model.proofs.Merging.{same_path}
use Rattle.models.specs.Models.{TypedWords, mined_of, graph_of, AreReached, IsModelOf}
use Rattle.models.specs.Histories.{split_by}
use Rattle.models.specs.Laws.{IsTypedLog}
use Rattle.models.proofs.Agreeing.{Agrees, agrees, from-maps}
use Rattle.models.proofs.Unique.{one_model}
use Rattle.models.proofs.Valid.{end-Keeps}
use Rattle.infer_core.specs.Runs.{AreFinal}
use Rattle.infer_core.proofs.Sharing.{Alike, graph-over}
use Rattle.distinct_law.specs.Words.{HaveSameWords, times, ids_by, path_by, visits, counted_over, without_counts}
use Rattle.distinct_law.specs.Laws.{TakesPath, WordsTakePaths, ModelIsCounted, ModelsDifferInCounts, CountsAreWeighted}
use Rattle.distinct_law.proofs.Alike.{splits-end, merges-end}
use Rattle.distinct_law.proofs.SameWords.{asked, as-whole, itself, words-from}
use Rattle.distinct_law.proofs.Wholes.{split-to, mined-alike, refined-alike, coarsened-alike}
use Rattle.distinct_law.proofs.Leading.{led, led-by, parts-led, path-led}
use Rattle.distinct_law.proofs.Sums.{weigh}
use Rattle.distinct_law.proofs.Counted.{sizes-along, edges-along, typed-alike, resized, recounted, resized-partitions, recounted-edges, labels-stay}

module _ (kinds : Kinds) (types us vs : List (List ℕ)) (same : (w : List ℕ) → Contains us w ↔ Contains vs w) (t : IsTypedLog (asked kinds types us))
    (m : Model) (k : IsModelOf m (asked kinds types us)) where
  -- where refinement of the second ends
  abbrev refined : Assignment
  refined = split-to types m.splits vs

  -- and where coarsening ends
  abbrev end : Assignment
  end = merged_by m.merges (split-to types m.splits vs)

  refining : IsRefined (mined_of (asked kinds types vs)) (length types) vs m.splits refined × Alike k.refined refined × IsTyped k.refined
  refining = refined-alike kinds types us vs same t m.splits k.refined k.splits

  coarsening : Coarsens (mined_of (asked kinds types vs)) refined m.merges end × Alike k.end end × IsTyped k.end
  coarsening = coarsened-alike kinds types us vs same t m.merges k.refined refined k.end refining.1 refining.2 k.merges

  -- there both have one graph
  one-graph : G k.end ≡ G end
  one-graph = graph-over k.end end coarsening.1 coarsening.2

  -- and the traces of the second are those to which its words are led
  led-there : end ≡ map (led m) vs
  led-there = ap (λ (texts : List (List ℕ)). merged_by m.merges (split_by (length texts + 2) m.splits (by_type vs))) (sym k.types) ∙ led-by m vs

  typed-there : IsTyped (map (led m) vs)
  typed-there = subst (λ (h : Assignment). IsTyped h) led-there (typed-alike k.end end coarsening.1 one-graph coarsening.2)

  sizes-there : (p : ℕ) → sum_by (λ w. visits p (path_by m w)) vs ≡ size end p
  sizes-there p = sizes-along m vs p typed-there ∙ ap (λ (h : Assignment). size h p) (sym led-there)

  counts-there : (p q : ℕ) → sum_by (λ w. pairs p q (path_by m w)) vs ≡ edge_count end p q
  counts-there p q = edges-along m vs p q ∙ ap (λ (h : Assignment). edge_count h p q) (sym led-there)

  labels-there : AllByRecursion (λ l. AreReached l.inv end (map (resized (λ p. sum_by (λ w. visits p (path_by m w)) vs)) m.partitions) l.labels) m.invariants
  labels-there =
      all_from (λ (l : Listed). AreReached l.inv end (map (resized (λ p. sum_by (λ w. visits p (path_by m w)) vs)) m.partitions) l.labels) m.invariants (λ l i.
      labels-stay (λ p. sum_by (λ w. visits p (path_by m w)) vs) l.inv k.end end m.partitions l.labels one-graph
      (all_in (λ (l : Listed). AreReached l.inv k.end m.partitions l.labels) l m.invariants k.labels i))

  -- the model of the first, counted over the words of the second, is the model of the second
  pub counted-model : IsModelOf (counted_over vs m) (asked kinds types vs)
  counted-model = record {
    types = k.types;
    kinds = k.kinds;
    refined = refined;
    end = end;
    splits = refining.0;
    merges = coarsening.0;
    partitions = resized-partitions (λ p. sum_by (λ w. visits p (path_by m w)) vs) k.end end m.partitions one-graph sizes-there k.partitions;
    edges = recounted-edges (λ p q. sum_by (λ w. pairs p q (path_by m w)) vs) k.end end m.edges one-graph counts-there k.edges;
    listing = k.listing ∙ mined-alike kinds types us vs same t;
    labels = labels-there;
    blocks = subst₂ (λ (invs : List Invariant) (g : Graph). AreBlocks invs g m.blocks) (mined-alike kinds types us vs same t) one-graph k.blocks;
  }

-- of two logs with the same words, the model of the first is, with other counts, the model of the second
pub model_is_counted : ModelIsCounted
model_is_counted few whole m s t k =
    let e : few ≡ asked whole.kinds whole.types few.words = as-whole few whole s in
    counted-model whole.kinds whole.types few.words whole.words s.words
    (subst (λ (log : TypedWords). IsTypedLog log) e t) m (subst (λ (log : TypedWords). IsModelOf m log) e k)

-- and each model of the second is that one
counted-is : (few whole : TypedWords) (m other : Model) → HaveSameWords few whole → IsTypedLog few → IsModelOf m few → IsModelOf other whole → other ≡ counted_over whole.words m
counted-is few whole m other s t k o = one_model other (counted_over whole.words m) whole o (model_is_counted few whole m s t k)

-- where coarsening of a log ends, its traces are those to which its words are led
end-led : (m : Model) (log : TypedWords) → (k : IsModelOf m log) → k.end ≡ map (led m) log.words
end-led m log k =
    merges-end (mined_of log) m.merges k.refined k.end k.merges
    ∙ ap (λ (h : Assignment). merged_by m.merges h) (splits-end (mined_of log) m.splits (by_type log.words) (length log.types + 2) k.refined k.splits)
    ∙ ap (λ (texts : List (List ℕ)). merged_by m.merges (split_by (length texts + 2) m.splits (by_type log.words))) (sym k.types)
    ∙ led-by m log.words

-- a trace to which a word is led has this word
led-types : (m : Model) (words : List (List ℕ)) → inner_words (map (led m) words) ≡ words → (w : List ℕ) → In w words → types_of (led m w) ≡ w
led-types m [] e w i = absurd i
led-types m (v ∷ words) e w (inl q) =
    let h : types_of (led m v) ≡ v = cc in
    subst (λ (x : List ℕ). types_of (led m x) ≡ x) q h
led-types m (v ∷ words) e w (inr j) =
    let r : inner_words (map (led m) words) ≡ words = cc in
    led-types m words r w j

-- each word takes a path
takes : (m : Model) (log : TypedWords) → IsTypedLog log → IsModelOf m log → (w : List ℕ) → In w log.words → TakesPath m w
takes m log t k w i =
    let d : Keeps (mined_of log) log.words k.end = end-Keeps m log t k in
    let e : k.end ≡ map (led m) log.words = end-led m log k in
    let j : In (led m w) k.end = subst (λ (h : Assignment). In (led m w) h) (sym e) (map-In (led m) w log.words i) in
    let f : IsPath (G k.end) (id_list (led m w)) × (word (G k.end) (id_list (led m w)) ≡ word_of (led m w)) = follows k.end d.typed (led m w) j in
    let a : Agrees (graph_of m) (G k.end) = agrees m k.end d.typed k.partitions k.edges in
    let p : IsPath (graph_of m) (id_list (led m w)) × (word (graph_of m) (id_list (led m w)) ≡ word (G k.end) (id_list (led m w))) =
    same_path (G k.end) (graph_of m) (from-maps (graph_of m) (G k.end) a) (id_list (led m w)) f.0 in
    let q : types_of (led m w) ≡ w = led-types m log.words (ap (λ (h : Assignment). inner_words h) (sym e) ∙ d.words_are) w i in
    record {
      path = subst (λ (path : List ℕ). IsPath (graph_of m) path) (sym (path-led m w)) p.0;
      same = ap (λ (path : List ℕ). word (graph_of m) path) (path-led m w) ∙ p.1 ∙ f.1 ∙ ap (λ (x : List ℕ). with_ends x) q;
    }

-- the ids of the paths are final
paths-final : (m : Model) (log : TypedWords) → IsModelOf m log → AreFinal log (flat_map (λ w. ids_by m w) log.words)
paths-final m log k = record {
  splits = m.splits;
  refined = k.refined;
  refines = k.splits;
  merges = m.merges;
  end = k.end;
  coarsens = k.merges;
  value = sym (parts-led m log.words) ∙ ap (λ (h : Assignment). parts_of h) (sym (end-led m log k));
}

-- each word of a log takes a path of its model, and the paths give the counts
pub words_take_paths : WordsTakePaths
words_take_paths m log t k = record {
  each = all_from (λ (w : List ℕ). TakesPath m w) log.words (λ w i. takes m log t k w i);
  final = paths-final m log k;
  counts = counted-is log log m m (itself log) t k k;
}

-- other sizes are nothing without counts
bare-partitions : (f : Partition → ℕ) (xs : List Partition) → map (λ (x : Partition). record x { count = 0 }) (map (λ (x : Partition). record x { count = f x }) xs) ≡ map (λ (x : Partition). record x { count = 0 }) xs
bare-partitions f [] = refl
bare-partitions f (x ∷ xs) = ap (λ (ys : List Partition). record x { count = 0 } ∷ ys) (bare-partitions f xs)

bare-edges : (f : Edge → ℕ) (xs : List Edge) → map (λ (x : Edge). record x { count = 0 }) (map (λ (x : Edge). record x { count = f x }) xs) ≡ map (λ (x : Edge). record x { count = 0 }) xs
bare-edges f [] = refl
bare-edges f (x ∷ xs) = ap (λ (ys : List Edge). record x { count = 0 } ∷ ys) (bare-edges f xs)

-- so a model with other counts is the same without its counts
bare : (words : List (List ℕ)) (m : Model) → without_counts (counted_over words m) ≡ without_counts m
bare words m =
    ap₂ (λ (xs : List Partition) (ys : List Edge). record m { partitions = xs; edges = ys })
    (bare-partitions (λ x. sum_by (λ w. visits x.id (path_by m w)) words) m.partitions)
    (bare-edges (λ x. sum_by (λ w. pairs x.from x.to (path_by m w)) words) m.edges)

-- the models of logs with the same words are the same but for their counts
pub models_differ_in_counts : ModelsDifferInCounts
models_differ_in_counts few whole m other s t k o =
    let e : other ≡ counted_over whole.words m = counted-is few whole m other s t k o in
    record {
      same = ap (λ (x : Model). without_counts x) e ∙ bare whole.words m;
      paths = λ w. ap (λ (x : Model). path_by x w) e;
      counts = e;
    }

-- the counts of the second are those of the paths, times how often the word comes
pub counts_are_weighted : CountsAreWeighted
counts_are_weighted few whole m other s apart t k o =
    let e : other ≡ counted_over whole.words m = counted-is few whole m other s t k o in
    record {
      sizes = λ x c.
          let f : ℕ → ℕ = λ p. sum_by (λ w. visits p (path_by m w)) whole.words in
          let i : In x (map (resized f) m.partitions) = subst (λ (y : Model). In x y.partitions) e (In-Contains other.partitions x c) in
          let b : (y : Partition) × In y m.partitions × (resized f y ≡ x) = In-map (resized f) x m.partitions i in
          sym (ap (λ (z : Partition). z.count) b.2)
          ∙ weigh whole.words few.words (λ w. visits b.0.id (path_by m w)) apart (words-from few whole s)
          ∙ ap (λ (z : Partition). sum_by (λ w. times whole.words w * visits z.id (path_by m w)) few.words) b.2;
      edges = λ x c.
          let f : ℕ → ℕ → ℕ = λ p q. sum_by (λ w. pairs p q (path_by m w)) whole.words in
          let i : In x (map (recounted f) m.edges) = subst (λ (y : Model). In x y.edges) e (In-Contains other.edges x c) in
          let b : (y : Edge) × In y m.edges × (recounted f y ≡ x) = In-map (recounted f) x m.edges i in
          sym (ap (λ (z : Edge). z.count) b.2)
          ∙ weigh whole.words few.words (λ w. pairs b.0.from b.0.to (path_by m w)) apart (words-from few whole s)
          ∙ ap (λ (z : Edge). sum_by (λ w. times whole.words w * pairs z.from z.to (path_by m w)) few.words) b.2;
    }
