-- A log with few suffixes has a small model.
use Rattle.std.proofs.Common.{◌≡◌, ℕ, zero, suc, ◌+◌, ◌-◌, ◌*◌, ◌<◌, ◌≤◌, List, [], ◌∷◌, ◌++◌, length, slice_get, Some, sym, ◌∙◌, refl, ap, subst, inl, inr, arith, sum_by, mul-suc}
use Rattle.std.proofs.Math.Nat.{mul-add}
use Rattle.std.proofs.lemmas.Nat.{mul-le}
use Rattle.std.proofs.lemmas.List.{length-map, map-append}
use Rattle.std.proofs.lemmas.List.Sums.{sum_by-cons}
use Rattle.std.specs.List.{AllByRecursion}
use Rattle.invariants.specs.declared.Invariant.{Invariant}
use Rattle.invariants.specs.declared.records.Split.{Split}
use Rattle.invariants.specs.declared.records.Block.{Block}
use Rattle.invariants.specs.declared.records.Model.{Model}
use Rattle.partition_model.specs.Graphs.{Graph, Satisfies, IsLeastViolation, IsFormed, Merged}
use Rattle.partition_model.specs.Assignments.{Event, Assignment, G, IsTyped, types_of, by_type, inner_words}
use Rattle.partition_model.specs.Listings.{AreBelow, ids_below}
use Rattle.partition_model.specs.Refinement.{Refines, after_split}
use Rattle.partition_model.specs.Coarsening.{IsBlock, AreBlocks}
use Rattle.partition_model.specs.Laws.{IsRun, HoldAll, EndsIn, NamesRests}
use Rattle.partition_model.proofs.Lists.{In, all_from}
use Rattle.partition_model.proofs.Listing.{Contains-In, range-In}
use Rattle.partition_model.proofs.Forming.{graphs_are_formed, merged_are_formed}
use Rattle.partition_model.proofs.Runs.{broken, next-run, start-run, runs_keep}
use Rattle.partition_bounds.specs.Laws.{IsBelow}
use Rattle.partition_bounds.specs.Pairs.{pair_of, pairs_of, pairs_below, inner_count}
use Rattle.partition_bounds.proofs.BlockPairs.{blocks_follow_pairs}
use Rattle.partition_bounds.proofs.Merges.{graphs_are_below, merged_are_below, merges-below}
use Rattle.partition_bounds.proofs.Ordered.{In-get}
use Rattle.partition_bounds.proofs.Pairing.{range-count, pairs_are_few}
use Rattle.partition_bounds.proofs.Short.{least_is_short}
use Rattle.model_shape.specs.Numbers.{split_numbers, block_numbers}
use Rattle.refinement_end.specs.Laws.{IsWholeRun}
use Rattle.refinement_end.proofs.WholeRuns.{refinement_ends}
use Rattle.models.specs.Models.{TypedWords, mined_of, IsModelOf}
use Rattle.models.specs.Histories.{first_new}
use Rattle.models.specs.Laws.{IsTypedLog}
use Rattle.models.proofs.Valid.{mined-hold, end-Keeps}
use Rattle.model_exists.specs.Laws.{NamesSuffixes, IsSmall, ModelsAreSmall, IsTheModel, SmallLogsFit}
use Rattle.model_exists.proofs.Models.{model_exists, whole-splits}

-- a least violation in a graph of ids below n is short
path-short : (g : Graph) (inv : Invariant) (path : List ℕ) (n : ℕ) → IsFormed g → IsBelow n g → IsLeastViolation g inv path → length path + 4 ≤ 3 * n
path-short g inv path n f below v =
    let c : length (ids_below n) ≡ n = range-count 0 n in
    let s : length path + 4 ≤ 3 * length (ids_below n) =
    least_is_short g inv path (ids_below n) f (λ p l. Contains-In p (ids_below n) (range-In 0 n p (omega arith) (let u : p < n = below p l in omega arith))) v in
    omega arith

-- the paths of a run of splits whose ids keep a bound are short
splits-short : (words : List (List ℕ)) (invs : List Invariant) (ss : List Split) (h : Assignment) (n : ℕ) (end : Assignment) (bound : ℕ) → IsRun words h n → 2 ≤ n → HoldAll words invs
    → n + length ss ≤ bound → Refines invs h n ss end → AllByRecursion (λ s. length s.path + 4 ≤ 3 * bound) ss
splits-short words invs [] h n end bound r l a k w = tt
splits-short words invs (s ∷ ss) h n end bound r l a k w =
    let b : (inv : Invariant) × (slice_get invs s.inv ≡ Some inv) × (Satisfies (G h) inv → ⊥) = broken (G h) invs s.inv w.0.first in
    let v : IsLeastViolation (G h) b.0 s.path = w.0.least b.0 b.1 in
    let p : length s.path + 4 ≤ 3 * n = path-short (G h) b.0 s.path n (graphs_are_formed h r.typed) (graphs_are_below h n l r.below) v in
    let r1 : IsRun words (after_split n s h) (n + 1) = next-run words invs h n s b.0 r l a b.1 v w.0.place in
    let e : n + 1 ≡ suc n = omega arith in (
      omega arith,
      splits-short words invs ss (after_split n s h) (suc n) end bound (subst (λ (m : ℕ). IsRun words (after_split n s h) m) e r1) (omega arith) a (omega arith) w.1,
    )

-- so are those of the blocks of a graph
blocks-short : (invs : List Invariant) (h : Assignment) (n : ℕ) (bs : List Block) → IsTyped h → 2 ≤ n → AreBelow n h → AreBlocks invs (G h) bs → AllByRecursion (λ b. length b.path + 4 ≤ 3 * n) bs
blocks-short invs h n bs t l below a = all_from (λ b. length b.path + 4 ≤ 3 * n) bs short
  where
    short : (b : Block) → In b bs → length b.path + 4 ≤ 3 * n
    short b i =
        let k : (k : ℕ) × (slice_get bs k ≡ Some b) = In-get b bs i in
        let z : IsBlock invs (G h) b = a.each k.0 b k.1 in
        let v : (inv : Invariant) × (slice_get invs b.inv ≡ Some inv) × (Satisfies (Merged (G h) b.p b.q) inv → ⊥) = broken (Merged (G h) b.p b.q) invs b.inv z.first in
        path-short (Merged (G h) b.p b.q) v.0 b.path n (merged_are_formed (G h) b.p b.q (graphs_are_formed h t) z.pair.low z.pair.order z.pair.has_p).0
        (merged_are_below (G h) b.p b.q n (graphs_are_below h n l below)) (z.least v.0 v.1)

-- lists that are short have few numbers together
few-numbers : {X : Type 0} (size : X → ℕ) (most : ℕ) (xs : List X) → AllByRecursion (λ x. size x ≤ most) xs → sum_by size xs ≤ most * length xs
few-numbers size most [] a = omega arith
few-numbers size most (x ∷ xs) a =
    let i : sum_by size xs ≤ most * length xs = few-numbers size most xs a.1 in
    let s : sum_by size (x ∷ xs) ≡ size x + sum_by size xs = sum_by-cons size x xs in
    let m : most * suc (length xs) ≡ most * length xs + most = mul-suc most (length xs) in
    let l : size x ≤ most = a.0 in
    omega arith

-- events with no types are none
no-types : (rest : List Event) → types_of rest ≡ [] → rest ≡ []
no-types [] e = refl
no-types (x ∷ xs) e = absurd (cc e)

-- what ends a trace is a suffix of its word
ends-word : (rest : List Event) (h : Assignment) → EndsIn rest h → (front : List ℕ) × In (front ++ types_of rest) (inner_words h)
ends-word rest [] o = absurd o
ends-word rest (t ∷ h) (inl o) = (types_of o.0, inl (ap types_of (sym o.1) ∙ map-append (λ (e : Event). e.typ) o.0 rest))
ends-word rest (t ∷ h) (inr o) = let w : (front : List ℕ) × In (front ++ types_of rest) (inner_words h) = ends-word rest h o in (w.0, inr w.1)

-- so a list that names the suffixes of the words names the rests of the traces
names-rests : (names words : List (List ℕ)) (h : Assignment) → inner_words h ≡ words → NamesSuffixes names words → NamesRests names h
names-rests names words h e f rest o n =
    let w : (front : List ℕ) × In (front ++ types_of rest) (inner_words h) = ends-word rest h o in
    f w.0 (types_of rest) (Contains-In (w.0 ++ types_of rest) words (subst (λ (vs : List (List ℕ)). In (w.0 ++ types_of rest) vs) e w.1)) (λ z. n (no-types rest z))

-- twice so many, and as many as so many have in all, are as many as one more has in all
one-more : (count : ℕ) → 2 * count + count * (count - 1) ≡ count * (count + 1)
one-more zero = refl
one-more (suc k) =
    let a : suc k * suc (suc k) ≡ suc k * suc k + suc k = mul-suc (suc k) (suc k) in
    let b : suc k * suc k ≡ suc k * k + suc k = mul-suc (suc k) k in
    let c : suc k - 1 ≡ k = omega arith in
    let d : suc k * (suc k - 1) ≡ suc k * k = ap (λ (z : ℕ). suc k * z) c in
    let e : suc k + 1 ≡ suc (suc k) = omega arith in
    let f : suc k * (suc k + 1) ≡ suc k * suc (suc k) = ap (λ (z : ℕ). suc k * z) e in
    omega arith

-- as many splits and blocks as such a model has have few numbers
numbers-few : (most count a b x y : ℕ) → a ≤ count → 2 * b ≤ count * (count - 1) → x ≤ most * a → y ≤ most * b → 2 * (x + y) ≤ most * (count * (count + 1))
numbers-few most count a b x y l k m n =
    let e : 2 * count + count * (count - 1) ≡ count * (count + 1) = one-more count in
    let f : most * (a + b) ≡ most * a + most * b = mul-add most a b in
    let g : most * ((a + b) + (a + b)) ≡ most * (a + b) + most * (a + b) = mul-add most (a + b) (a + b) in
    let h : most * ((a + b) + (a + b)) ≤ most * (count * (count + 1)) = mul-le most ((a + b) + (a + b)) most (count * (count + 1)) (omega arith) (omega arith) in
    omega arith

-- a log has no more ids beside the two ends than it has suffixes
ids-few : (m : Model) (log : TypedWords) (names : List (List ℕ)) → IsTypedLog log → IsModelOf m log → NamesSuffixes names log.words → first_new log + length m.splits ≤ length names + 2
ids-few m log names t k f =
    let o : (splits : List Split) × (end : Assignment) × IsWholeRun (mined_of log) log.words (first_new log) splits end = refinement_ends (mined_of log) log.words (first_new log) t (mined-hold log) in
    let r : first_new log + length o.0 ≤ length names + 2 = o.2.rests names (names-rests names log.words o.1 o.2.keeps.words_are f) in
    let e : length o.0 ≡ length m.splits = ap length (o.2.alone m.splits k.refined k.splits).0 in
    omega arith

-- where the ids of a graph keep a bound, it has few blocks
blocks-few : (invs : List Invariant) (h : Assignment) (n count : ℕ) (bs : List Block) → 2 ≤ n → n ≤ count + 2 → AreBelow n h → AreBlocks invs (G h) bs → 2 * length bs ≤ count * (count - 1)
blocks-few invs h n count bs l k below a =
    let e : length (pairs_of bs) ≡ length (pairs_below n (G h)) = ap length (blocks_follow_pairs invs (G h) n bs (graphs_are_below h n l below) a) in
    let m : length (pairs_of bs) ≡ length bs = length-map bs (λ (b : Block). pair_of b.p b.q) in
    let p : 2 * length (pairs_below n (G h)) ≤ inner_count n * (inner_count n - 1) = pairs_are_few (G h) n in
    let q : inner_count n * (inner_count n - 1) ≤ count * (count - 1) = mul-le (inner_count n) (inner_count n - 1) count (count - 1) (omega arith) (omega arith) in
    omega arith

-- short paths are so by the number of ids beside the ends
within-most : {X : Type 0} (size : X → ℕ) (n count : ℕ) (xs : List X) → n ≤ count + 2 → AllByRecursion (λ x. size x + 4 ≤ 3 * n) xs → AllByRecursion (λ x. size x ≤ 3 * count + 2) xs
within-most size n count [] k a = tt
within-most size n count (x ∷ xs) k a = ((let l : size x + 4 ≤ 3 * n = a.0 in omega arith), within-most size n count xs k a.1)

-- a log with few suffixes has a small model
pub models_are_small : ModelsAreSmall
models_are_small m log names t k f =
    let two : 2 ≤ first_new log = t.two in
    let few : first_new log + length m.splits ≤ length names + 2 = ids-few m log names t k f in
    let types : length m.types ≡ length log.types = ap length k.types in
    let run : IsRun log.words k.refined (first_new log + length m.splits) =
    runs_keep (mined_of log) log.words (first_new log) m.splits k.refined t (mined-hold log) (whole-splits (mined_of log) m.splits (by_type log.words) (first_new log) k.refined k.splits) in
    let below : AreBelow (first_new log + length m.splits) k.end =
    merges-below (mined_of log) m.merges k.refined k.end (first_new log + length m.splits) (omega arith) run.below k.merges in
    let blocks : 2 * length m.blocks ≤ length names * (length names - 1) = blocks-few (mined_of log) k.end (first_new log + length m.splits) (length names) m.blocks (omega arith) few below k.blocks in
    let a : split_numbers m.splits ≤ (3 * length names + 2) * length m.splits =
    few-numbers (λ (s : Split). length s.path) (3 * length names + 2) m.splits (within-most (λ (s : Split). length s.path) (first_new log + length m.splits) (length names) m.splits few
    (splits-short log.words (mined_of log) m.splits (by_type log.words) (first_new log) k.refined (first_new log + length m.splits) (start-run log.words (first_new log) t) two (mined-hold log) (omega arith) k.splits)) in
    let b : block_numbers m.blocks ≤ (3 * length names + 2) * length m.blocks =
    few-numbers (λ (x : Block). length x.path) (3 * length names + 2) m.blocks (within-most (λ (x : Block). length x.path) (first_new log + length m.splits) (length names) m.blocks few
    (blocks-short (mined_of log) k.end (first_new log + length m.splits) m.blocks (end-Keeps m log t k).typed (omega arith) below k.blocks)) in
    record {
      ids = omega arith;
      blocks = blocks;
      numbers = numbers-few (3 * length names + 2) (length names) (length m.splits) (length m.blocks) (split_numbers m.splits) (block_numbers m.blocks) (omega arith) blocks a b;
    }

-- so a log with no more than so many suffixes has a model within the limits
pub small_logs_fit : SmallLogsFit
small_logs_fit log names t f l =
    let o : (m : Model) × IsTheModel m log = model_exists log t in
    let s : IsSmall (length names) o.0 = models_are_small o.0 log names t o.1.model f in
    let i : length o.0.types + length o.0.splits ≤ length names = s.ids in
    let n : 2 * (split_numbers o.0.splits + block_numbers o.0.blocks) ≤ (3 * length names + 2) * (length names * (length names + 1)) = s.numbers in
    let p : length names * (length names + 1) ≤ 138 * 139 = mul-le (length names) (length names + 1) 138 139 l (omega arith) in
    let q : (3 * length names + 2) * (length names * (length names + 1)) ≤ 416 * (138 * 139) = mul-le (3 * length names + 2) (length names * (length names + 1)) 416 (138 * 139) (omega arith) p in
    (o.0, o.1, record { ids = omega arith; numbers = omega arith })
