-- No log ends in two ways.
use Rattle.std.proofs.Common.{◌≡◌, ℕ, ◌+◌, ◌<◌, ◌≤◌, List, [], ◌∷◌, ◌++◌, length, slice_get, Some, sym, ◌∙◌, refl, ap, subst, subst₂, inl, inr, arith}
use Rattle.std.proofs.lemmas.List.Sums.{sum_by-cons, sum_by-append}
use Rattle.limits.specs.declared.TheConstants.{MAX_PARTITIONS, MAX_PATH_NUMBERS}
use Rattle.invariants.specs.declared.Invariant.{Invariant}
use Rattle.invariants.specs.declared.records.Split.{Split}
use Rattle.invariants.specs.declared.records.Merge.{Merge}
use Rattle.invariants.specs.declared.records.Block.{Block}
use Rattle.model_shape.specs.Numbers.{split_numbers, block_numbers}
use Rattle.partition_model.specs.Graphs.{Graph, Satisfies, IsLeastViolation, Merged}
use Rattle.partition_model.specs.Assignments.{Assignment, G, by_type}
use Rattle.partition_model.specs.Listings.{parts_of}
use Rattle.partition_model.specs.Refinement.{IsFirstBroken, IsRefined}
use Rattle.partition_model.specs.Coarsening.{Coarsens, PairBefore, IsBlock, AscendFrom, AreBlocks}
use Rattle.partition_model.specs.Laws.{PairsAscend}
use Rattle.partition_model.proofs.Lists.{In, In-append, all_in}
use Rattle.partition_model.proofs.Least.{one_least}
use Rattle.partition_model.proofs.Runs.{broken}
use Rattle.partition_model.proofs.Unique.{one-broken, one_refinement, one_coarsening}
use Rattle.partition_bounds.specs.Pairs.{pairs_of}
use Rattle.partition_bounds.proofs.Ordered.{pair-asym, pair-next, get-In}
use Rattle.partition_bounds.proofs.FirstSplits.{steps_exclude}
use Rattle.models.specs.Models.{TypedWords, mined_of}
use Rattle.models.specs.Histories.{first_new}
use Rattle.partition_graph.specs.Parts.{Parts}
use Rattle.coarsener.specs.Blocking.{EndsWithoutRoom}
use Rattle.coarsener.proofs.BlockingTurns.{pairs-more}
use Rattle.infer_core.specs.Ends.{PathsFit}
use Rattle.infer_core.specs.Laws.{EndsExclude, OneFinal}
use Rattle.infer_core.specs.Runs.{PassesNumbers, PassesPartitions}
use Rattle.infer_core.proofs.Pairs.{pairs-ascend}

-- two blocks of one pair
same-block : (x y : Block) → x.p ≡ y.p → x.q ≡ y.q → x.inv ≡ y.inv → x.path ≡ y.path → x ≡ y
same-block x y e f g k = λ d. record { p = e d; q = f d; inv = g d; path = k d }

one-block : (invs : List Invariant) (g : Graph) (x y : Block) → IsBlock invs g x → IsBlock invs g y → x.p ≡ y.p → x.q ≡ y.q → x ≡ y
one-block invs g x y a b e f =
    let bf : IsFirstBroken (Merged g x.p x.q) invs y.inv = subst₂ (λ (u v : ℕ). IsFirstBroken (Merged g u v) invs y.inv) (sym e) (sym f) b.first in
    let i : x.inv ≡ y.inv = one-broken (Merged g x.p x.q) invs x.inv y.inv a.first bf in
    let o : (inv : Invariant) × (slice_get invs x.inv ≡ Some inv) × (Satisfies (Merged g x.p x.q) inv → ⊥) = broken (Merged g x.p x.q) invs x.inv a.first in
    let at : slice_get invs y.inv ≡ Some o.0 = ap (λ (k : ℕ). slice_get invs k) (sym i) ∙ o.1 in
    let path : x.path ≡ y.path =
    one_least (Merged g x.p x.q) o.0 x.path y.path (a.least o.0 o.1)
    (subst₂ (λ (u v : ℕ). IsLeastViolation (Merged g u v) o.0 y.path) (sym e) (sym f) (b.least o.0 at)) in
    same-block x y e f i path

-- all blocks of a graph have the block of each pair
block-there : (invs : List Invariant) (g : Graph) (bs : List Block) (d : Block) → AreBlocks invs g bs → IsBlock invs g d → In d bs
block-there invs g bs d a k =
    let w : (k : ℕ) × (b : Block) × (slice_get bs k ≡ Some b) × (b.p ≡ d.p) × (b.q ≡ d.q) = a.whole d.p d.q k.pair in
    subst (λ (u : Block). In u bs) (one-block invs g w.1 d (a.each w.0 w.1 w.2) k w.3 w.4) (get-In bs w.0 w.1 w.2)

-- blocks that ascend among others that do have no more numbers than these
above : (p q : ℕ) (bs : List Block) (b : Block) → AscendFrom p q bs → In b bs → PairBefore p q b.p b.q
above p q [] b a i = absurd i
above p q (x ∷ bs) b a (inl e) = subst (λ (u : Block). PairBefore p q u.p u.q) e a.0
above p q (x ∷ bs) b a (inr j) = pair-next p q x.p x.q b.p b.q a.0 (above x.p x.q bs b a.1 j)

never-before : (p q : ℕ) → PairBefore p q p q → ⊥
never-before p q k = pair-asym p q p q k k

no-more : (p q r s : ℕ) (ds bs : List Block) → AscendFrom p q ds → AscendFrom r s bs → ((d : Block) → In d ds → In d bs) → block_numbers ds ≤ block_numbers bs
no-more p q r s [] bs a c f = omega arith
no-more p q r s (d ∷ ds) [] a c f = absurd (f d (inl refl))
no-more p q r s (d ∷ ds) (b ∷ bs) a c f =
    let m : block_numbers (d ∷ ds) ≡ length d.path + block_numbers ds = sum_by-cons (λ (x : Block). length x.path) d ds in
    let n : block_numbers (b ∷ bs) ≡ length b.path + block_numbers bs = sum_by-cons (λ (x : Block). length x.path) b bs in
    elim (f d (inl refl)) [
      | inl e ↦
          let rest : (x : Block) → In x ds → In x bs = λ x i. elim (f x (inr i)) [
            | inl o ↦ absurd (let k : PairBefore d.p d.q x.p x.q = above d.p d.q ds x a.1 i in
                never-before d.p d.q (subst (λ (u : Block). PairBefore d.p d.q u.p u.q) (sym o ∙ e) k))
            | inr j ↦ j
          ] in
          let l : block_numbers ds ≤ block_numbers bs = no-more d.p d.q b.p b.q ds bs a.1 c.1 rest in
          let t : length b.path ≡ length d.path = ap (λ (u : Block). length u.path) e in
          omega arith
      | inr j ↦
          let k : PairBefore b.p b.q d.p d.q = above b.p b.q bs d c.1 j in
          let rest : (x : Block) → In x (d ∷ ds) → In x bs = λ x i. elim (f x i) [
            | inl o ↦ absurd (elim i [
              | inl h ↦ never-before b.p b.q (subst (λ (u : Block). PairBefore b.p b.q u.p u.q) (h ∙ sym o) k)
              | inr h ↦ pair-asym b.p b.q d.p d.q k (subst (λ (u : Block). PairBefore d.p d.q u.p u.q) (sym o) (above d.p d.q ds x a.1 h))
            ])
            | inr h ↦ h
          ] in
          let l : block_numbers (d ∷ ds) ≤ block_numbers bs = no-more b.p b.q b.p b.q (d ∷ ds) bs (k, a.1) c.1 rest in
          omega arith
    ]

-- the first pairs of the list ascend
front-ascends : (p q : ℕ) (ds : List Block) (rest : List Merge) → PairsAscend p q (pairs_of ds ++ rest) → AscendFrom p q ds
front-ascends p q [] rest a = tt
front-ascends p q (d ∷ ds) rest a = (a.0, front-ascends d.p d.q ds rest a.1)

-- so all blocks have at least the numbers of the first ones and of the next
pub next-within : (invs : List Invariant) (parts : Parts) (done bs : List Block) (held : ℕ) (w : EndsWithoutRoom invs parts done held) → AreBlocks invs (G parts.traces) bs
    → block_numbers done + length w.next.path ≤ block_numbers bs
next-within invs parts done bs held w a =
    let g : Graph = G parts.traces in
    let up : PairsAscend 0 0 (pairs_of (done ++ w.next ∷ []) ++ w.rest) =
    subst (λ (ms : List Merge). PairsAscend 0 0 ms) (sym (pairs-more done w.next w.rest ∙ w.pairs)) (pairs-ascend parts.used g) in
    let there : (d : Block) → In d (done ++ w.next ∷ []) → In d bs = λ d i. elim (In-append d done (w.next ∷ []) i) [
      | inl j ↦ block-there invs g bs d a (all_in (IsBlock invs g) d done w.each j)
      | inr j ↦ elim j [ inl e ↦ subst (λ (u : Block). In u bs) e (block-there invs g bs w.next a w.is_block) | inr n ↦ absurd n ]
    ] in
    let l : block_numbers (done ++ w.next ∷ []) ≤ block_numbers bs =
    no-more 0 0 0 0 (done ++ w.next ∷ []) bs (front-ascends 0 0 (done ++ w.next ∷ []) w.rest up) a.order there in
    let s : block_numbers (done ++ w.next ∷ []) ≡ block_numbers done + block_numbers (w.next ∷ []) = sum_by-append (λ (x : Block). length x.path) done (w.next ∷ []) in
    let t : block_numbers (w.next ∷ []) ≡ length w.next.path + block_numbers [] = sum_by-cons (λ (x : Block). length x.path) w.next [] in
    omega arith

-- where all blocks fit, no list of the first of them runs out of room
pub blocks-fit : (invs : List Invariant) (parts : Parts) (splits : List Split) (blocks : List Block) → AreBlocks invs (G parts.traces) blocks
    → split_numbers splits + block_numbers blocks ≤ MAX_PATH_NUMBERS → PathsFit invs parts splits
blocks-fit invs parts splits blocks a l done w =
    let n : block_numbers done + length w.next.path ≤ block_numbers blocks = next-within invs parts done blocks (split_numbers splits + block_numbers done) w a in
    let t : MAX_PATH_NUMBERS < split_numbers splits + block_numbers done + length w.next.path = w.too_long in
    omega arith

-- a log whose refinement keeps the limit does not pass it
pub partitions-exclude : (log : TypedWords) (splits : List Split) (end : Assignment) → IsRefined (mined_of log) (length log.types) log.words splits end
    → first_new log + length splits ≤ MAX_PARTITIONS → PassesPartitions log → ⊥
partitions-exclude log splits end r l p =
    let k : length p.splits < length splits = steps_exclude (mined_of log) (by_type log.words) p.now end (first_new log) p.splits splits p.next p.run p.is_next r in
    let f : first_new log + length p.splits ≡ MAX_PARTITIONS = p.full in
    omega arith

-- nor does one whose paths fit
pub numbers-exclude : (log : TypedWords) (splits : List Split) (refined : Assignment) (merges : List Merge) (end : Assignment)
    → IsRefined (mined_of log) (length log.types) log.words splits refined → Coarsens (mined_of log) refined merges end
    → PathsFit (mined_of log) (record { traces = end; used = first_new log + length splits }) splits → PassesNumbers log → ⊥
numbers-exclude log splits refined merges end r c f p =
    let s : (splits ≡ p.splits) × (refined ≡ p.refined) = one_refinement (mined_of log) (by_type log.words) (first_new log) splits p.splits refined p.refined r p.refines in
    let m : (merges ≡ p.merges) × (end ≡ p.end) =
    one_coarsening (mined_of log) refined merges p.merges end p.end c (subst (λ (h : Assignment). Coarsens (mined_of log) h p.merges p.end) (sym s.1) p.coarsens) in
    f p.blocks (subst₂ (λ (ss : List Split) (h : Assignment). EndsWithoutRoom (mined_of log) (record { traces = h; used = first_new log + length ss }) p.blocks (split_numbers ss + block_numbers p.blocks))
    (sym s.0) (sym m.1) p.ends)

-- and none passes both
pub both-exclude : (log : TypedWords) → PassesPartitions log → PassesNumbers log → ⊥
both-exclude log p n = partitions-exclude log n.splits n.refined n.refines n.within p

-- a log ends in one way alone: with a model, or past one of the two limits
pub ends_exclude : EndsExclude
ends_exclude = record {
  partitions = λ m log k w p.
      let e : length m.types ≡ length log.types = ap (λ (x : List (List ℕ)). length x) k.types in
      let l : first_new log + length m.splits ≤ MAX_PARTITIONS = omega (arith, w.ids) in
      partitions-exclude log m.splits k.refined k.splits l p;
  numbers = λ m log k w p.
      let parts : Parts = record { traces = k.end; used = first_new log + length m.splits } in
      numbers-exclude log m.splits k.refined m.merges k.end k.splits k.merges (blocks-fit (mined_of log) parts m.splits m.blocks k.blocks w.numbers) p;
  both = both-exclude;
}

-- the final ids of a log are determined by it
pub one_final : OneFinal
one_final log a b x y =
    let s : (x.splits ≡ y.splits) × (x.refined ≡ y.refined) = one_refinement (mined_of log) (by_type log.words) (first_new log) x.splits y.splits x.refined y.refined x.refines y.refines in
    let m : (x.merges ≡ y.merges) × (x.end ≡ y.end) =
    one_coarsening (mined_of log) x.refined x.merges y.merges x.end y.end x.coarsens (subst (λ (h : Assignment). Coarsens (mined_of log) h y.merges y.end) (sym s.1) y.coarsens) in
    x.value ∙ ap parts_of m.1 ∙ sym y.value
