-- The blocks of a graph and its pairs.
use Rattle.std.proofs.Common.{◌≡◌, ◌↔◌, ℕ, List, [], ◌∷◌, slice_get, Some, sym, ap, subst, subst₂, inl, inr}
use Rattle.invariants.specs.declared.records.Merge.{Merge}
use Rattle.invariants.specs.declared.records.Block.{Block}
use Rattle.partition_model.specs.Coarsening.{IsPair, PairBefore, IsBlock, AscendFrom}
use Rattle.partition_model.specs.Laws.{PairsAscend, IsAmong}
use Rattle.partition_model.proofs.Lists.{In, In-map, map-In, all_in}
use Rattle.partition_bounds.specs.Pairs.{pair_of, pairs_below, pairs_of}
use Rattle.partition_bounds.specs.Laws.{BlocksFollowPairs, PairsGiveBlocks}
use Rattle.partition_bounds.proofs.Ordered.{Sorted, same-lists, pair-asym, pair-next, get-In, In-get}
use Rattle.partition_bounds.proofs.Pairing.{pairs_tell, In-Among, Among-In}

-- pairs in their order
abbrev MergeBefore : Merge → Merge → Type 0
MergeBefore x y = PairBefore x.p x.q y.p y.q

-- what a list of pairs ascends from is before each of it
pairs-above : (p q : ℕ) (xs : List Merge) (y : Merge) → PairsAscend p q xs → In y xs → PairBefore p q y.p y.q
pairs-above p q [] y a i = absurd i
pairs-above p q (x ∷ xs) y a i = elim i [
  | inl e ↦ subst (λ (u : Merge). PairBefore p q u.p u.q) e a.0
  | inr j ↦ pair-next p q x.p x.q y.p y.q a.0 (pairs-above x.p x.q xs y a.1 j)
]

-- in an ascending list each pair is before all later ones
pairs-sorted : (p q : ℕ) (xs : List Merge) → PairsAscend p q xs → Sorted MergeBefore xs
pairs-sorted p q [] a = tt
pairs-sorted p q (x ∷ xs) a = (λ y i. pairs-above x.p x.q xs y a.1 i, pairs-sorted x.p x.q xs a.1)

-- where blocks ascend, so do their pairs
blocks-to-pairs : (p q : ℕ) (bs : List Block) → AscendFrom p q bs → PairsAscend p q (pairs_of bs)
blocks-to-pairs p q [] a = tt
blocks-to-pairs p q (b ∷ bs) a = (a.0, blocks-to-pairs b.p b.q bs a.1)

-- where the pairs of blocks ascend, so do the blocks
pairs-to-blocks : (p q : ℕ) (bs : List Block) → PairsAscend p q (pairs_of bs) → AscendFrom p q bs
pairs-to-blocks p q [] a = tt
pairs-to-blocks p q (b ∷ bs) a = (a.0, pairs-to-blocks b.p b.q bs a.1)

-- a pair of the list, by its two ids
In-again : (z : Merge) (ms : List Merge) → In z ms → IsAmong z.p z.q ms
In-again z ms i = In-Among z.p z.q ms i

-- the blocks of a graph have its pairs, in their order
pub blocks_follow_pairs : BlocksFollowPairs
blocks_follow_pairs invs g n bs below a =
    let t : PairsAscend 0 0 (pairs_below n g) × ((p q : ℕ) → IsPair g p q ↔ IsAmong p q (pairs_below n g)) = pairs_tell g n below in
    same-lists MergeBefore (λ x y l k. pair-asym x.p x.q y.p y.q l k) (pairs_of bs) (pairs_below n g)
    (pairs-sorted 0 0 (pairs_of bs) (blocks-to-pairs 0 0 bs a.order)) (pairs-sorted 0 0 (pairs_below n g) t.0)
    (λ z i.
    let o : (b : Block) × In b bs × (pair_of b.p b.q ≡ z) = In-map (λ (b : Block). pair_of b.p b.q) z bs i in
    let k : (k : ℕ) × (slice_get bs k ≡ Some o.0) = In-get o.0 bs o.1 in
    let b : IsBlock invs g o.0 = a.each k.0 o.0 k.1 in
    subst (λ (m : Merge). In m (pairs_below n g)) o.2 (Among-In o.0.p o.0.q (pairs_below n g) ((t.1 o.0.p o.0.q).0 b.pair)))
    (λ z i.
    let p : IsPair g z.p z.q = (t.1 z.p z.q).1 (In-again z (pairs_below n g) i) in
    let w : (k : ℕ) × (b : Block) × (slice_get bs k ≡ Some b) × (b.p ≡ z.p) × (b.q ≡ z.q) = a.whole z.p z.q p in
    let j : In (pair_of w.1.p w.1.q) (pairs_of bs) = map-In (λ (b : Block). pair_of b.p b.q) w.1 bs (get-In bs w.0 w.1 w.2) in
    subst₂ (λ (x y : ℕ). In (pair_of x y) (pairs_of bs)) w.3 w.4 j)

-- blocks of these pairs, in their order, are the blocks of the graph
pub pairs_give_blocks : PairsGiveBlocks
pairs_give_blocks invs g n bs below e all =
    let t : PairsAscend 0 0 (pairs_below n g) × ((p q : ℕ) → IsPair g p q ↔ IsAmong p q (pairs_below n g)) = pairs_tell g n below in
    record {
      order = pairs-to-blocks 0 0 bs (subst (λ (ms : List Merge). PairsAscend 0 0 ms) (sym e) t.0);
      each = λ k b at. all_in (IsBlock invs g) b bs all (get-In bs k b at);
      whole = λ p q i.
          let m : In (pair_of p q) (pairs_of bs) = subst (λ (ms : List Merge). In (pair_of p q) ms) (sym e) (Among-In p q (pairs_below n g) ((t.1 p q).0 i)) in
          let o : (b : Block) × In b bs × (pair_of b.p b.q ≡ pair_of p q) = In-map (λ (b : Block). pair_of b.p b.q) (pair_of p q) bs m in
          let k : (k : ℕ) × (slice_get bs k ≡ Some o.0) = In-get o.0 bs o.1 in
          (k.0, o.0, k.1, ap (λ (z : Merge). z.p) o.2, ap (λ (z : Merge). z.q) o.2);
    }
