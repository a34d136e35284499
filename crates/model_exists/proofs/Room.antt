-- A run that stops without room for the path of a block tells that the model needs more numbers.
use Rattle.std.proofs.Common.{◌≡◌, ℕ, ◌+◌, ◌*◌, ◌<◌, ◌≤◌, List, [], ◌∷◌, ◌++◌, length, slice_get, Some, sym, ◌∙◌, refl, ap, subst, inl, inr, arith}
use Rattle.std.proofs.lemmas.Bool.{cases_lt}
use Rattle.std.proofs.lemmas.List.{map-append}
use Rattle.std.proofs.lemmas.List.Sums.{sum_by-cons, sum_by-append}
use Rattle.std.specs.List.{AllByRecursion}
use Rattle.limits.specs.declared.TheConstants.{MAX_PARTITIONS, MAX_PATH_NUMBERS}
use Rattle.invariants.specs.declared.Invariant.{Invariant}
use Rattle.invariants.specs.declared.records.Merge.{Merge}
use Rattle.invariants.specs.declared.records.Block.{Block}
use Rattle.invariants.specs.declared.records.Model.{Model}
use Rattle.partition_model.specs.Graphs.{Graph}
use Rattle.partition_model.specs.Assignments.{G, IsTyped, by_type}
use Rattle.partition_model.specs.Listings.{AreBelow}
use Rattle.partition_model.specs.Coarsening.{IsPair, NoMerge, IsBlock, AreBlocks}
use Rattle.partition_model.specs.Laws.{IsRun}
use Rattle.partition_model.proofs.Lists.{In, In-append_left, In-append_right, all_from}
use Rattle.partition_model.proofs.Runs.{runs_keep}
use Rattle.partition_bounds.specs.Laws.{IsBelow}
use Rattle.partition_bounds.specs.Pairs.{pair_of, pairs_of, pairs_below, longest_path}
use Rattle.partition_bounds.proofs.BlockPairs.{blocks_follow_pairs, pairs_give_blocks}
use Rattle.partition_bounds.proofs.Merges.{graphs_are_below, merges-below}
use Rattle.partition_bounds.proofs.Ordered.{In-get}
use Rattle.partition_bounds.proofs.Pairing.{pairs_tell, In-Among}
use Rattle.partition_bounds.proofs.SplitPaths.{split_paths_within_limit}
use Rattle.model_shape.specs.Numbers.{split_numbers, block_numbers}
use Rattle.models.specs.Models.{TypedWords, mined_of, IsModelOf}
use Rattle.models.specs.Histories.{first_new}
use Rattle.models.specs.Laws.{IsTypedLog}
use Rattle.models.proofs.Valid.{mined-hold}
use Rattle.model_exists.specs.Laws.{HasBlock, HasBlocks, NeedsMoreNumbers, StopsWithoutRoom, RoomTells}
use Rattle.model_exists.proofs.Merges.{blocks_exist, merges-lead, blocks-of}
use Rattle.model_exists.proofs.Models.{whole-splits, HasModelWith, model-at, the-model}

-- the first block whose path has no room beside the numbers that are held
record IsCut (limit held : ℕ) (bs fit : List Block) (next : Block) (rest : List Block) : Type 0 where
  blocks : fit ++ next ∷ rest ≡ bs
  room : held + block_numbers fit ≤ limit
  too_long : limit < held + block_numbers fit + length next.path

-- there is one, if the paths of all blocks have no room
cut : (limit held : ℕ) (bs : List Block) → held ≤ limit → limit < held + block_numbers bs → (fit : List Block) × (next : Block) × (rest : List Block) × IsCut limit held bs fit next rest
cut limit held [] l k = absurd (omega arith)
cut limit held (b ∷ bs) l k =
    let s : block_numbers (b ∷ bs) ≡ length b.path + block_numbers bs = sum_by-cons (λ (x : Block). length x.path) b bs in
    elim (cases_lt limit (held + length b.path)) [
      | inl n ↦ ([], b, bs, record { blocks = refl; room = omega arith; too_long = omega arith })
      | inr n ↦
          let o : (fit : List Block) × (next : Block) × (rest : List Block) × IsCut limit (held + length b.path) bs fit next rest =
          cut limit (held + length b.path) bs (omega arith) (omega arith) in
          let c : block_numbers (b ∷ o.0) ≡ length b.path + block_numbers o.0 = sum_by-cons (λ (x : Block). length x.path) b o.0 in
          let r : held + length b.path + block_numbers o.0 ≤ limit = o.3.room in
          let t : limit < held + length b.path + block_numbers o.0 + length o.1.path = o.3.too_long in
          (b ∷ o.0, o.1, o.2, record { blocks = ap (λ (xs : List Block). b ∷ xs) o.3.blocks; room = omega arith; too_long = omega arith })
    ]

-- the blocks have the numbers of the first ones and of the next
cut-numbers : (fit rest bs : List Block) (next : Block) → fit ++ next ∷ rest ≡ bs → block_numbers fit + length next.path ≤ block_numbers bs
cut-numbers fit rest bs next e =
    let a : block_numbers (fit ++ next ∷ rest) ≡ block_numbers fit + block_numbers (next ∷ rest) = sum_by-append (λ (x : Block). length x.path) fit (next ∷ rest) in
    let b : block_numbers (next ∷ rest) ≡ length next.path + block_numbers rest = sum_by-cons (λ (x : Block). length x.path) next rest in
    let c : block_numbers (fit ++ next ∷ rest) ≡ block_numbers bs = ap block_numbers e in
    omega arith

-- a run of splits within the ids that there may be has room for its paths
splits-fit : (m : Model) (log : TypedWords) → IsTypedLog log → (k : IsModelOf m log) → first_new log + length m.splits ≤ MAX_PARTITIONS → split_numbers m.splits ≤ MAX_PATH_NUMBERS
splits-fit m log t k l =
    let two : 2 ≤ first_new log = t.two in
    let s : split_numbers m.splits ≤ longest_path * length m.splits =
    split_paths_within_limit (mined_of log) log.words (first_new log) m.splits k.refined t (mined-hold log) l (whole-splits (mined_of log) m.splits (by_type log.words) (first_new log) k.refined k.splits) in
    omega arith

-- where a log's refinement ends, its ids are below the first new one
ended-run : (m : Model) (log : TypedWords) → IsTypedLog log → (k : IsModelOf m log) → IsRun log.words k.refined (first_new log + length m.splits)
ended-run m log t k =
    runs_keep (mined_of log) log.words (first_new log) m.splits k.refined t (mined-hold log) (whole-splits (mined_of log) m.splits (by_type log.words) (first_new log) k.refined k.splits)

-- the pairs of some blocks and of those after them
pairs-more : (fit rest : List Block) (next : Block) → pairs_of (fit ++ next ∷ rest) ≡ pairs_of fit ++ pair_of next.p next.q ∷ pairs_of rest
pairs-more fit rest next = map-append (λ (b : Block). pair_of b.p b.q) fit (next ∷ rest)

-- a log that needs more numbers stops without room
without-room : (log : TypedWords) → IsTypedLog log → NeedsMoreNumbers log → StopsWithoutRoom log
without-room log t n =
    record {
      splits = n.model.splits;
      refined = k.refined;
      refines = k.splits;
      within = n.ids;
      merges = n.model.merges;
      end = k.end;
      coarsens = k.merges;
      blocks = c.0;
      next = c.1;
      rest = pairs_of c.2;
      pairs = sym (pairs-more c.0 c.2 c.1) ∙ (ap pairs_of c.3.blocks ∙ blocks_follow_pairs (mined_of log) (G k.end) ids n.model.blocks (graphs_are_below k.end ids two below) k.blocks);
      each = all_from (IsBlock (mined_of log) (G k.end)) c.0 (λ b i. is-block b (In-append_left b c.0 (c.1 ∷ c.2) i));
      is_block = is-block c.1 (In-append_right c.1 c.0 (c.1 ∷ c.2) (inl refl));
      too_long = c.3.too_long;
    }
  where
    k : IsModelOf n.model log
    k = n.is_model.model

    ids : ℕ
    ids = first_new log + length n.model.splits

    two : 2 ≤ first_new log + length n.model.splits
    two = let l : 2 ≤ first_new log = t.two in omega arith

    below : AreBelow (first_new log + length n.model.splits) k.end
    below = merges-below (mined_of log) n.model.merges k.refined k.end (first_new log + length n.model.splits) two (ended-run n.model log t k).below k.merges

    c : (fit : List Block) × (next : Block) × (rest : List Block) × IsCut MAX_PATH_NUMBERS (split_numbers n.model.splits) n.model.blocks fit next rest
    c = cut MAX_PATH_NUMBERS (split_numbers n.model.splits) n.model.blocks (splits-fit n.model log t k n.ids) n.numbers

    is-block : (b : Block) → In b (c.0 ++ c.1 ∷ c.2) → IsBlock (mined_of log) (G k.end) b
    is-block b i =
        let g : (j : ℕ) × (slice_get n.model.blocks j ≡ Some b) = In-get b n.model.blocks (subst (λ (bs : List Block). In b bs) c.3.blocks i) in
        k.blocks.each g.0 b g.1

-- what holds of two lists holds of the two joined
all-joined : {X : Type 0} (P : X → Type 0) (xs ys : List X) → AllByRecursion P xs → AllByRecursion P ys → AllByRecursion P (xs ++ ys)
all-joined P [] ys a b = b
all-joined P (x ∷ xs) ys a b = (a.0, all-joined P xs ys a.1 b)

-- a pair of a graph whose pairs have blocks has one
block-there : (invs : List Invariant) (g : Graph) (n : ℕ) (m : Merge) → IsBelow n g → HasBlocks invs g → In m (pairs_below n g) → HasBlock invs g m.p m.q
block-there invs g n m below o i =
    let p : IsPair g m.p m.q = ((pairs_tell g n below).1 m.p m.q).1 (In-Among m.p m.q (pairs_below n g) i) in
    let w : (k : ℕ) × (b : Block) × (slice_get o.0 k ≡ Some b) × (b.p ≡ m.p) × (b.q ≡ m.q) = o.1.whole m.p m.q p in
    (w.1, o.1.each w.0 w.1 w.2, w.3, w.4)

-- blocks of the first pairs, and of the next, are the first ones of all blocks
all-blocks : (invs : List Invariant) (g : Graph) (n : ℕ) (blocks : List Block) (next : Block) (rest : List Merge) → IsBelow n g → HasBlocks invs g
    → pairs_of blocks ++ pair_of next.p next.q ∷ rest ≡ pairs_below n g → AllByRecursion (IsBlock invs g) blocks → IsBlock invs g next
    → (more : List Block) × AreBlocks invs g (blocks ++ next ∷ more)
all-blocks invs g n blocks next rest below o e each b =
    let m : (bs : List Block) × (pairs_of bs ≡ rest) × AllByRecursion (IsBlock invs g) bs = blocks-of invs g rest (λ m i.
    block-there invs g n m below o (subst (λ (ms : List Merge). In m ms) e (In-append_right m (pairs_of blocks) (pair_of next.p next.q ∷ rest) (inr i)))) in
    let f : pairs_of (blocks ++ next ∷ m.0) ≡ pairs_below n g = pairs-more blocks m.0 next ∙ (ap (λ (ms : List Merge). pairs_of blocks ++ pair_of next.p next.q ∷ ms) m.1 ∙ e) in
    (m.0, pairs_give_blocks invs g n (blocks ++ next ∷ m.0) below f (all-joined (IsBlock invs g) blocks (next ∷ m.0) each (b, m.2)))

-- a log whose model has the splits and the first blocks of such a stop needs more numbers
needs-by : (log : TypedWords) (s : StopsWithoutRoom log) (more : List Block) → HasModelWith log s.splits (s.blocks ++ s.next ∷ more) → NeedsMoreNumbers log
needs-by log s more o =
    let e : length o.0.splits ≡ length s.splits = ap length o.2 in
    let f : split_numbers o.0.splits ≡ split_numbers s.splits = ap split_numbers o.2 in
    let g : block_numbers s.blocks + length s.next.path ≤ block_numbers o.0.blocks = cut-numbers s.blocks more o.0.blocks s.next (sym o.3) in
    let w : first_new log + length s.splits ≤ MAX_PARTITIONS = s.within in
    let k : MAX_PATH_NUMBERS < split_numbers s.splits + block_numbers s.blocks + length s.next.path = s.too_long in
    record { model = o.0; is_model = the-model o.0 log o.1; ids = omega arith; numbers = omega arith }

-- and a log that stops without room has such a model
needs-numbers : (log : TypedWords) → IsTypedLog log → StopsWithoutRoom log → NeedsMoreNumbers log
needs-numbers log t s =
    let l : 2 ≤ first_new log = t.two in
    let run : IsRun log.words s.refined (first_new log + length s.splits) =
    runs_keep (mined_of log) log.words (first_new log) s.splits s.refined t (mined-hold log) (whole-splits (mined_of log) s.splits (by_type log.words) (first_new log) s.refined s.refines) in
    let led : IsTyped s.end × NoMerge (mined_of log) s.end = merges-lead (mined_of log) s.merges s.refined s.end run.typed s.coarsens in
    let b : AreBelow (first_new log + length s.splits) s.end = merges-below (mined_of log) s.merges s.refined s.end (first_new log + length s.splits) (omega arith) run.below s.coarsens in
    let below : IsBelow (first_new log + length s.splits) (G s.end) = graphs_are_below s.end (first_new log + length s.splits) (omega arith) b in
    let bs : (more : List Block) × AreBlocks (mined_of log) (G s.end) (s.blocks ++ s.next ∷ more) =
    all-blocks (mined_of log) (G s.end) (first_new log + length s.splits) s.blocks s.next s.rest below ((blocks_exist (mined_of log) s.end led.0).0 led.1) s.pairs s.each s.is_block in
    needs-by log s bs.0 (model-at log s.splits s.refined s.merges s.end (s.blocks ++ s.next ∷ bs.0) s.refines s.coarsens led.0 bs.1)

-- a stop without room says that the model needs more numbers
pub room_tells : RoomTells
room_tells log t = (without-room log t, needs-numbers log t)
