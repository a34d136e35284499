-- A graph has one list of blocks, and a merge keeps what the merged graph satisfies.
use Rattle.std.proofs.Common.{◌≡◌, ℕ, List, [], ◌∷◌, slice_get, Some, sym, ◌∙◌, ap, subst, subst₂, inl, inr}
use Rattle.invariants.specs.declared.Invariant.{Invariant}
use Rattle.invariants.specs.declared.records.Block.{Block}
use Rattle.partition_model.specs.Graphs.{Graph, Satisfies, IsLeastViolation, Merged}
use Rattle.partition_model.specs.Assignments.{G}
use Rattle.partition_model.specs.Refinement.{IsFirstBroken}
use Rattle.partition_model.specs.Coarsening.{merge, PairBefore, IsBlock, AscendFrom, AreBlocks}
use Rattle.partition_bounds.specs.Laws.{OneBlocks, MergeSatisfies}
use Rattle.partition_model.proofs.Lists.{In}
use Rattle.partition_model.proofs.Least.{one_least}
use Rattle.partition_model.proofs.Runs.{broken}
use Rattle.partition_model.proofs.Unique.{one-broken}
use Rattle.partition_model.proofs.Paths.{all_maps}
use Rattle.partition_model.proofs.Merging.{merge_to_merged, merged_to_merge}
use Rattle.partition_bounds.proofs.Ordered.{Sorted, same-lists, pair-asym, pair-next, get-In, In-get}

-- blocks in the order of their pairs
abbrev BlockBefore : Block → Block → Type 0
BlockBefore x y = PairBefore x.p x.q y.p y.q

-- what a list of blocks ascends from is before each of it
blocks-above : (p q : ℕ) (xs : List Block) (y : Block) → AscendFrom p q xs → In y xs → PairBefore p q y.p y.q
blocks-above p q [] y a i = absurd i
blocks-above p q (x ∷ xs) y a i = elim i [
  | inl e ↦ subst (λ (u : Block). PairBefore p q u.p u.q) e a.0
  | inr j ↦ pair-next p q x.p x.q y.p y.q a.0 (blocks-above x.p x.q xs y a.1 j)
]

-- in an ascending list each block is before all later ones
blocks-sorted : (p q : ℕ) (xs : List Block) → AscendFrom p q xs → Sorted BlockBefore xs
blocks-sorted p q [] a = tt
blocks-sorted p q (x ∷ xs) a = (λ y i. blocks-above x.p x.q xs y a.1 i, blocks-sorted x.p x.q xs a.1)

-- each of the blocks of a graph is the block of its pair
block-in : (invs : List Invariant) (g : Graph) (xs : List Block) → AreBlocks invs g xs → (z : Block) → In z xs → IsBlock invs g z
block-in invs g xs a z i = let r : (k : ℕ) × (slice_get xs k ≡ Some z) = In-get z xs i in a.each r.0 z r.1

-- blocks with the same pair, invariant and path are the same
same-block : (x y : Block) → x.p ≡ y.p → x.q ≡ y.q → x.inv ≡ y.inv → x.path ≡ y.path → x ≡ y
same-block x y e f g k = λ d. record { p = e d; q = f d; inv = g d; path = k d }

-- a pair has at most one block
one-block : (invs : List Invariant) (g : Graph) (x y : Block) → IsBlock invs g x → IsBlock invs g y → x.p ≡ y.p → x.q ≡ y.q → x ≡ y
one-block invs g x y a b e f =
    let bf : IsFirstBroken (Merged g x.p x.q) invs y.inv = subst₂ (λ (u v : ℕ). IsFirstBroken (Merged g u v) invs y.inv) (sym e) (sym f) b.first in
    let i : x.inv ≡ y.inv = one-broken (Merged g x.p x.q) invs x.inv y.inv a.first bf in
    let o : (inv : Invariant) × (slice_get invs x.inv ≡ Some inv) × (Satisfies (Merged g x.p x.q) inv → ⊥) = broken (Merged g x.p x.q) invs x.inv a.first in
    let at : slice_get invs y.inv ≡ Some o.0 = ap (λ (k : ℕ). slice_get invs k) (sym i) ∙ o.1 in
    let path : x.path ≡ y.path =
    one_least (Merged g x.p x.q) o.0 x.path y.path (a.least o.0 o.1)
    (subst₂ (λ (u v : ℕ). IsLeastViolation (Merged g u v) o.0 y.path) (sym e) (sym f) (b.least o.0 at)) in
    same-block x y e f i path

-- a block of one list is in each other list of the blocks
block-there : (invs : List Invariant) (g : Graph) (xs ys : List Block) → AreBlocks invs g xs → AreBlocks invs g ys → (z : Block) → In z xs → In z ys
block-there invs g xs ys a b z i =
    let bz : IsBlock invs g z = block-in invs g xs a z i in
    let w : (k : ℕ) × (x : Block) × (slice_get ys k ≡ Some x) × (x.p ≡ z.p) × (x.q ≡ z.q) = b.whole z.p z.q bz.pair in
    let iw : In w.1 ys = get-In ys w.0 w.1 w.2 in
    let e : w.1 ≡ z = one-block invs g w.1 z (block-in invs g ys b w.1 iw) bz w.3 w.4 in
    subst (λ (u : Block). In u ys) e iw

-- a graph has one list of blocks
pub one_blocks : OneBlocks
one_blocks invs g xs ys a b =
    same-lists BlockBefore (λ x y l k. pair-asym x.p x.q y.p y.q l k) xs ys (blocks-sorted 0 0 xs a.order) (blocks-sorted 0 0 ys b.order)
    (block-there invs g xs ys a b) (block-there invs g ys xs b a)

-- the graph of the merged assignment satisfies invariants exactly where the merged graph does
pub merge_satisfies : MergeSatisfies
merge_satisfies h p q t i invs = (
  λ s. all_maps (λ x. x) (Merged (G h) p q) (G (merge p q h)) (merged_to_merge h p q t i) invs s,
  λ s. all_maps (λ x. x) (G (merge p q h)) (Merged (G h) p q) (merge_to_merged h p q t i) invs s,
)
