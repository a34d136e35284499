-- The model of a log passes both checks.
use Rattle.std.proofs.Common.{◌≡◌, ℕ, zero, suc, ◌+◌, ◌<◌, ◌≤◌, true, List, [], ◌∷◌, map, filter, length, slice_get, Some, sym, ◌∙◌, refl, ap, subst, subst₂, inl, inr, arith}
use Rattle.std.proofs.lemmas.Bool.{cases_Bool, and_parts}
use Rattle.std.specs.List.{AllByRecursion}
use Rattle.invariants.specs.declared.Invariant.{Invariant}
use Rattle.invariants.specs.declared.records.Split.{Split}
use Rattle.invariants.specs.declared.records.Merge.{Merge}
use Rattle.invariants.specs.declared.records.Block.{Block}
use Rattle.invariants.specs.declared.records.Listed.{Listed}
use Rattle.invariants.specs.declared.records.Model.{Model}
use Rattle.invariants.specs.Holds.{Holds, holds}
use Rattle.invariants.specs.Monitors.{step}
use Rattle.invariants.specs.Mined.{holds_of_all}
use Rattle.invariants.specs.Candidates.{candidates_for}
use Rattle.invariants.proofs.Agree.{step-le}
use Rattle.invariants.proofs.ByPlaces.{holds-Holds}
use Rattle.partition_model.specs.Graphs.{IsPath, word, Accepts, Satisfies, Breaks, Merged, IsLeastViolation}
use Rattle.partition_model.specs.Assignments.{Assignment, G, by_type, with_ends}
use Rattle.partition_model.specs.Labels.{IsInductive, Reached}
use Rattle.partition_model.specs.Refinement.{Refines, SatisfiesAll, after_split, stitch}
use Rattle.partition_model.specs.Coarsening.{merge, merged_by, IsPair, Coarsens, IsBlock, AreBlocks}
use Rattle.partition_model.specs.Laws.{IsRun, HoldAll, Divides, Keeps, MergeInTurn}
use Rattle.partition_model.proofs.Listing.{Contains-In}
use Rattle.partition_model.proofs.Paths.{accepts_maps}
use Rattle.partition_model.proofs.Merging.{same_path}
use Rattle.partition_model.proofs.Labelling.{reached_inductive}
use Rattle.partition_model.proofs.Stitching.{stitch_divides}
use Rattle.partition_model.proofs.Keeping.{refinement_keeps, coarsening_keeps}
use Rattle.partition_model.proofs.Runs.{broken, traces-hold, fresh-run, next-run, start-run}
use Rattle.partition_bounds.proofs.Ordered.{get-In}
use Rattle.models.specs.Models.{TypedWords, mined_of, graph_of, has_state, label_at, IsLabelled, AreReached, IsModelOf}
use Rattle.models.specs.Checks.{IsAccepted, IsBlocked, IsValid}
use Rattle.models.specs.Histories.{IsJustifiedSplit, SplitInTurn, split_by, replayed, IsGraphOf}
use Rattle.models.specs.Laws.{IsTypedLog, ModelsPass}
use Rattle.models.proofs.Agreeing.{Agrees, agrees, from-maps, merged-agrees}
use Rattle.model_shape.specs.Shapes.{listing_of}

-- where the test of an invariant says yes of all words, it holds of each, by places
holds-all : (words : List (List ℕ)) (inv : Invariant) → holds_of_all (map with_ends words) inv ≡ true → AllByRecursion (λ w. Holds inv (with_ends w)) words
holds-all [] inv h = tt
holds-all (w ∷ words) inv h =
    let p : (holds inv (with_ends w) ≡ true) × (holds_of_all (map with_ends words) inv ≡ true) = and_parts (holds inv (with_ends w)) (holds_of_all (map with_ends words) inv) h in
    ((holds-Holds inv (with_ends w)).0 p.0, holds-all words inv p.1)

-- what is mined of some invariants holds of each word
filter-holds : (words : List (List ℕ)) (invs : List Invariant) → HoldAll words (filter (holds_of_all (map with_ends words)) invs)
filter-holds words [] = tt
filter-holds words (inv ∷ invs) =
    elim (cases_Bool (holds_of_all (map with_ends words) inv)) [
      | inl t ↦ rw t (holds-all words inv t, filter-holds words invs)
      | inr f ↦ rw f (filter-holds words invs)
    ]

-- each mined invariant holds of each word
pub mined-hold : (log : TypedWords) → HoldAll log.words (mined_of log)
mined-hold log = filter-holds log.words (candidates_for log.kinds (length log.types))

-- where an invariant stands in the listing, it stands at that place of the list with its labels
get-map : (xs : List Listed) (k : ℕ) (inv : Invariant) → slice_get (map (λ l. l.inv) xs) k ≡ Some inv → (l : Listed) × (slice_get xs k ≡ Some l) × (l.inv ≡ inv)
get-map [] k inv e = absurd (cc e)
get-map (x ∷ xs) zero inv e = (x, refl, cc)
get-map (x ∷ xs) (suc k) inv e = get-map xs k inv e

-- an invariant of the mined list stands at its place in the model
pub listed-at : (m : Model) (invs : List Invariant) (k : ℕ) (inv : Invariant) → listing_of m ≡ invs → slice_get invs k ≡ Some inv → (l : Listed) × (slice_get m.invariants k ≡ Some l) × (l.inv ≡ inv)
listed-at m invs k inv e f = get-map m.invariants k inv (ap (λ (z : List Invariant). slice_get z k) e ∙ f)

-- a state that is in a set is below 3
pub three-states : (d s : ℕ) → has_state d s ≡ true → s < 3
three-states d zero e = omega arith
three-states d (suc zero) e = omega arith
three-states d (suc (suc zero)) e = omega arith
three-states d (suc (suc (suc s))) e = absurd (cc e)

-- a monitor goes from a state below 3 to one below 3
step-small : (inv : Invariant) (s x : ℕ) → s < 3 → step inv s x < 3
step-small inv s x l = let k : step inv s x ≤ 2 = step-le inv.kind inv.a inv.b s x (omega arith) in omega arith

-- labels of the reached states are inductive where the graph satisfies the invariant
labelled : (m : Model) (h : Assignment) (l : Listed) → Agrees (graph_of m) (G h) → Satisfies (G h) l.inv → AreReached l.inv h m.partitions l.labels → IsLabelled m l
labelled m h l a sat r =
    let i : IsInductive l.inv (G h) (Reached l.inv (G h)) = reached_inductive l.inv (G h) sat in
    let s0 : step l.inv 0 ((G h).typ 0) < 3 = step-small l.inv 0 ((G h).typ 0) (omega arith) in
    let st : step l.inv 0 ((graph_of m).typ 0) ≡ step l.inv 0 ((G h).typ 0) = ap (λ (x : ℕ). step l.inv 0 x) a.zero_is in
    record {
      start = subst (λ (s : ℕ). has_state (label_at 0 m.partitions l.labels) s ≡ true) (sym st) ((r.states 0 (step l.inv 0 ((G h).typ 0)) refl s0).1 i.start);
      along = λ p q s e k.
          let e' : (G h).edge p q ≡ true = sym (a.edges p q) ∙ e in
          let lv : ((G h).listed p ≡ true) × ((G h).listed q ≡ true) = a.ends p q e' in
          let s3 : s < 3 = three-states (label_at p m.partitions l.labels) s k in
          let rp : Reached l.inv (G h) p s = (r.states p s lv.0 s3).0 k in
          let n3 : step l.inv s ((G h).typ q) < 3 = step-small l.inv s ((G h).typ q) s3 in
          let ty : step l.inv s ((graph_of m).typ q) ≡ step l.inv s ((G h).typ q) = ap (λ (x : ℕ). step l.inv s x) (a.types q lv.1) in
          subst (λ (x : ℕ). has_state (label_at q m.partitions l.labels) x ≡ true) (sym ty) ((r.states q (step l.inv s ((G h).typ q)) lv.1 n3).1 (i.along p q s e' rp));
      end = λ s k. i.end s ((r.states 1 s refl (three-states (label_at 1 m.partitions l.labels) s k)).0 k);
    }

-- so are those of all listed invariants
all-labelled : (m : Model) (h : Assignment) (xs : List Listed) (invs : List Invariant) → Agrees (graph_of m) (G h) → map (λ l. l.inv) xs ≡ invs → SatisfiesAll (G h) invs
    → AllByRecursion (λ l. AreReached l.inv h m.partitions l.labels) xs → AllByRecursion (IsLabelled m) xs
all-labelled m h [] invs a e s r = tt
all-labelled m h (x ∷ xs) invs a e s r =
    let s' : SatisfiesAll (G h) (x.inv ∷ map (λ l. l.inv) xs) = subst (λ (z : List Invariant). SatisfiesAll (G h) z) (sym e) s in
    (labelled m h x a s'.0 r.0, all-labelled m h xs (map (λ l. l.inv) xs) a refl s'.1 r.1)

-- words that the graph of the assignment accepts are accepted by the model
all-accepted : (m : Model) (h : Assignment) (words : List (List ℕ)) → Agrees (graph_of m) (G h) → AllByRecursion (λ w. Accepts (G h) (with_ends w)) words → AllByRecursion (IsAccepted m) words
all-accepted m h [] a f = tt
all-accepted m h (w ∷ words) a f = (accepts_maps (λ x. x) (G h) (graph_of m) (from-maps (graph_of m) (G h) a) (with_ends w) f.0, all-accepted m h words a f.1)

-- a pair of the graph of the model is one of that of the assignment
pub pair-there : (m : Model) (h : Assignment) (p q : ℕ) → Agrees (graph_of m) (G h) → IsPair (graph_of m) p q → IsPair (G h) p q
pair-there m h p q a i =
    let lp : (G h).listed p ≡ true = sym (a.listed p) ∙ i.has_p in
    let lq : (G h).listed q ≡ true = sym (a.listed q) ∙ i.has_q in
    record { low = i.low; order = i.order; has_p = lp; has_q = lq; types = sym (a.types p lp) ∙ i.types ∙ a.types q lq }

-- a pair of the model has a block that keeps it apart where the blocks are those of the assignment
blocked : (m : Model) (h : Assignment) (invs : List Invariant) (p q : ℕ) → Agrees (graph_of m) (G h) → listing_of m ≡ invs → AreBlocks invs (G h) m.blocks → IsPair (graph_of m) p q → IsBlocked m p q
blocked m h invs p q a e bs i =
    let j : IsPair (G h) p q = pair-there m h p q a i in
    let w : (k : ℕ) × (b : Block) × (slice_get m.blocks k ≡ Some b) × (b.p ≡ p) × (b.q ≡ q) = bs.whole p q j in
    let b : IsBlock invs (G h) w.1 = bs.each w.0 w.1 w.2 in
    let f : (inv : Invariant) × (slice_get invs w.1.inv ≡ Some inv) × (Satisfies (Merged (G h) w.1.p w.1.q) inv → ⊥) = broken (Merged (G h) w.1.p w.1.q) invs w.1.inv b.first in
    let v : IsLeastViolation (Merged (G h) w.1.p w.1.q) f.0 w.1.path = b.least f.0 f.1 in
    let l : (l : Listed) × (slice_get m.invariants w.1.inv ≡ Some l) × (l.inv ≡ f.0) = listed-at m invs w.1.inv f.0 e f.1 in
    let br : Breaks (Merged (G h) p q) f.0 w.1.path = subst₂ (λ (x y : ℕ). Breaks (Merged (G h) x y) f.0 w.1.path) w.3 w.4 v.breaks in
    let sp : IsPath (Merged (graph_of m) p q) w.1.path × (word (Merged (graph_of m) p q) w.1.path ≡ word (Merged (G h) p q) w.1.path) =
    same_path (Merged (G h) p q) (Merged (graph_of m) p q) (merged-agrees (graph_of m) (G h) p q a j.has_p) w.1.path br.0 in
    let br2 : Breaks (Merged (graph_of m) p q) f.0 w.1.path = (sp.0, λ hd. br.1 (subst (λ (z : List ℕ). Holds f.0 z) sp.1 hd)) in
    let br3 : Breaks (Merged (graph_of m) p q) l.0.inv w.1.path = subst (λ (x : Invariant). Breaks (Merged (graph_of m) p q) x w.1.path) (sym l.2) br2 in
    (w.1, l.0, record { there = Contains-In w.1 m.blocks (get-In m.blocks w.0 w.1 w.2); lower = w.3; higher = w.4; names = l.1; breaks = br3 })

-- each split of refinement is right in its turn, and the splits lead to where refinement ends
splits-right : (m : Model) (words : List (List ℕ)) (invs : List Invariant) (ss : List Split) (h : Assignment) (n : ℕ) (end : Assignment) → listing_of m ≡ invs
    → IsRun words h n → 2 ≤ n → HoldAll words invs → n + length ss ≤ 1024 → Refines invs h n ss end → SplitInTurn m h n ss × (split_by n ss h ≡ end)
splits-right m words invs [] h n end e r l a lim w = (tt, sym w.1)
splits-right m words invs (s ∷ ss) h n end e r l a lim w =
    let b : (inv : Invariant) × (slice_get invs s.inv ≡ Some inv) × (Satisfies (G h) inv → ⊥) = broken (G h) invs s.inv w.0.first in
    let v : IsLeastViolation (G h) b.0 s.path = w.0.least b.0 b.1 in
    let li : (l : Listed) × (slice_get m.invariants s.inv ≡ Some l) × (l.inv ≡ b.0) = listed-at m invs s.inv b.0 e b.1 in
    let d : Divides h s.path n = stitch_divides h b.0 s.path n r.typed (fresh-run words h n r l) (traces-hold words h n b.0 invs s.inv r a b.1) v.breaks in
    let r' : IsRun words (after_split n s h) (n + 1) = next-run words invs h n s b.0 r l a b.1 v w.0.place in
    let x : n + 1 ≡ suc n = omega arith in
    let pl : s.place ≡ stitch h s.path = w.0.place in
    let be : stitch h s.path + 1 < length s.path = d.before_end in
    let right : IsJustifiedSplit m h n s = record {
      listed = li.0;
      names = li.1;
      breaks = subst (λ (i : Invariant). Breaks (G h) i s.path) (sym li.2) v.breaks;
      place = w.0.place;
      inside = omega arith;
      room = omega arith;
    } in
    let rest : SplitInTurn m (after_split n s h) (suc n) ss × (split_by (suc n) ss (after_split n s h) ≡ end) =
    splits-right m words invs ss (after_split n s h) (suc n) end e (subst (λ (k : ℕ). IsRun words (after_split n s h) k) x r') (omega arith) a (omega arith) w.1 in
    ((right, rest.0), rest.1)

-- each merge of coarsening is right in its turn, and the merges lead to where coarsening ends
merges-right : (invs : List Invariant) (ms : List Merge) (h end : Assignment) → Coarsens invs h ms end → MergeInTurn h ms × (merged_by ms h ≡ end)
merges-right invs [] h end c = (tt, sym c.1)
merges-right invs (m ∷ ms) h end c =
    let r : MergeInTurn (merge m.p m.q h) ms × (merged_by ms (merge m.p m.q h) ≡ end) = merges-right invs ms (merge m.p m.q h) end c.1 in
    ((c.0.pair, r.0), r.1)

-- where refinement ends, the words and the mined invariants are kept
pub refined-Keeps : (m : Model) (log : TypedWords) → IsTypedLog log → (k : IsModelOf m log) → Keeps (mined_of log) log.words k.refined
refined-Keeps m log t k = refinement_keeps (mined_of log) log.words (length log.types + 2) m.splits k.refined t (mined-hold log) k.splits

-- where coarsening ends, the words and the mined invariants are kept
pub end-Keeps : (m : Model) (log : TypedWords) → IsTypedLog log → (k : IsModelOf m log) → Keeps (mined_of log) log.words k.end
end-Keeps m log t k = (coarsening_keeps (mined_of log) log.words k.refined m.merges k.end (refined-Keeps m log t k) k.merges).0

-- the model of a log is valid for it
pub models-valid : (m : Model) (log : TypedWords) → IsTypedLog log → IsModelOf m log → IsValid m log
models-valid m log t k =
    let ke : Keeps (mined_of log) log.words k.end = end-Keeps m log t k in
    let ag : Agrees (graph_of m) (G k.end) = agrees m k.end ke.typed k.partitions k.edges in
    record {
      types = k.types;
      listing = k.listing;
      traces = all-accepted m k.end log.words ag ke.accepts;
      labels = all-labelled m k.end m.invariants (mined_of log) ag k.listing ke.satisfies k.labels;
      blocks = λ p q i. blocked m k.end (mined_of log) p q ag k.listing k.blocks i;
    }

-- the model of a log passes both checks
pub models_pass : ModelsPass
models_pass m log t k lim =
    let run0 : IsRun log.words (by_type log.words) (length log.types + 2) = start-run log.words (length log.types + 2) t in
    let sr : SplitInTurn m (by_type log.words) (length log.types + 2) m.splits × (split_by (length log.types + 2) m.splits (by_type log.words) ≡ k.refined) =
    splits-right m log.words (mined_of log) m.splits (by_type log.words) (length log.types + 2) k.refined k.listing run0 t.two (mined-hold log) lim k.splits in
    let mr : MergeInTurn k.refined m.merges × (merged_by m.merges k.refined ≡ k.end) = merges-right (mined_of log) m.merges k.refined k.end k.merges in
    let back : k.end ≡ replayed m log = sym mr.1 ∙ ap (λ (x : Assignment). merged_by m.merges x) (sym sr.1) in
    let gr : IsGraphOf m k.end = record { partitions = k.partitions; edges = k.edges } in (
      models-valid m log t k,
      record {
        types = k.types;
        splits = sr.0;
        merges = subst (λ (x : Assignment). MergeInTurn x m.merges) (sym sr.1) mr.0;
        graph = subst (λ (x : Assignment). IsGraphOf m x) back gr;
      },
    )
