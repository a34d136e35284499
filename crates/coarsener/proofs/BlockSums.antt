-- The paths of blocks, by bounds on each.
use Rattle.std.proofs.Common.{◌≡◌, true, ℕ, ◌+◌, ◌*◌, ◌≤◌, List, [], ◌∷◌, ◌++◌, length, slice_get, Some, sum_by, ◌∙◌, ap, arith}
use Rattle.std.proofs.lemmas.List.Sums.{sum_by-cons, sum_by-append}
use Rattle.std.specs.List.{AllByRecursion}
use Rattle.limits.specs.declared.TheConstants.{TERMINAL, MAX_PAIRS, MAX_PATH_NUMBERS}
use Rattle.invariants.specs.declared.Invariant.{Invariant}
use Rattle.invariants.specs.declared.records.Merge.{Merge}
use Rattle.invariants.specs.declared.records.Block.{Block}
use Rattle.partition_model.specs.Graphs.{Graph, Satisfies, IsLeastViolation, IsFormed, Merged}
use Rattle.partition_model.specs.Assignments.{G}
use Rattle.partition_model.specs.Coarsening.{IsPair, IsBlock}
use Rattle.partition_model.proofs.Forming.{graphs_are_formed, merged_are_formed}
use Rattle.partition_model.proofs.Runs.{broken}
use Rattle.partition_bounds.specs.Laws.{IsBelow}
use Rattle.partition_bounds.specs.Pairs.{longest_path, pair_of, pairs_of, pairs_below}
use Rattle.partition_bounds.proofs.Merges.{graphs_are_below, merged_are_below}
use Rattle.partition_bounds.proofs.Pairing.{pairs_within_limit}
use Rattle.partition_bounds.proofs.Shorter.{least_within_limit}
use Rattle.model_shape.specs.Numbers.{block_numbers}
use Rattle.partition_graph.specs.Parts.{Parts}
use Rattle.coarsener.specs.declared.fitting.Known.{Known}
use Rattle.coarsener.specs.declared.fitting.Known.TheVariants.{Nothing, Ranks}
use Rattle.coarsener.specs.Blocking.{pair_count, EndsWithoutRoom}
use Rattle.coarsener.specs.Fitting.{rank_of, gap, falls_of, IsTrueOf, most_ids, most_in_all}
use Rattle.coarsener.specs.Pairs.{HasIds, HasNoPairBehind, IsNextPair}
use Rattle.coarsener.proofs.Remaining.{Remain, remain-start, remain-next, remain-none}
use Rattle.coarsener.proofs.Rising.{least-rising}

-- the bound of a pair is within that of all graphs
most-small : (known : Known) (m : Merge) → most_ids known m ≤ longest_path
most-small Nothing m = omega arith
most-small (Ranks ranks falls) m = omega arith

-- so the bounds of pairs are, together
sum-small : (known : Known) (ms : List Merge) → sum_by (most_ids known) ms ≤ length ms * longest_path
sum-small known [] = omega arith
sum-small known (m ∷ ms) =
    let e : sum_by (most_ids known) (m ∷ ms) ≡ most_ids known m + sum_by (most_ids known) ms = sum_by-cons (most_ids known) m ms in
    let s : most_ids known m ≤ longest_path = most-small known m in
    let i : sum_by (most_ids known) ms ≤ length ms * longest_path = sum-small known ms in
    omega arith

-- where nothing is known, the bounds of pairs are all that of all graphs
pub sum-nothing : (parts : Parts) → most_in_all Nothing parts ≤ pair_count parts * longest_path
sum-nothing parts = sum-small Nothing (pairs_below parts.used (G parts.traces))

-- the bounds of the pairs up to (p, q) are added
pub record IsSumming (known : Known) (parts : Parts) (p q most : ℕ) : Type 0 where
  pub rest : List Merge
  pub remain : Remain (G parts.traces) p q rest
  pub sum : most + sum_by (most_ids known) rest ≡ most_in_all known parts

-- before the first pair there are none
pub sums-start : (known : Known) (parts : Parts) → HasIds parts → IsSumming known parts 2 2 0
sums-start known parts ids =
    record {
      rest = pairs_below parts.used (G parts.traces);
      remain = remain-start (G parts.traces) parts.used (graphs_are_below parts.traces parts.used ids.two ids.below);
      sum = omega arith;
    }

-- a turn adds that of the next pair
pub sums-next : (known : Known) (parts : Parts) (p q r s most : ℕ) → IsSumming known parts p q most → IsNextPair (G parts.traces) p q r s
    → IsSumming known parts r s (most + most_ids known (pair_of r s))
sums-next known parts p q r s most c n =
    let m : (more : List Merge) × (c.rest ≡ pair_of r s ∷ more) × Remain (G parts.traces) r s more = remain-next (G parts.traces) p q r s c.rest c.remain n in
    let e : sum_by (most_ids known) c.rest ≡ most_ids known (pair_of r s) + sum_by (most_ids known) m.0 =
    ap (λ (ms : List Merge). sum_by (most_ids known) ms) m.1 ∙ sum_by-cons (most_ids known) (pair_of r s) m.0 in
    record { rest = m.0; remain = m.2; sum = omega (arith, c.sum) }

-- behind the last pair all are added
pub sums-end : (known : Known) (parts : Parts) (p q most : ℕ) → IsSumming known parts p q most → HasNoPairBehind (G parts.traces) p q → most ≡ most_in_all known parts
sums-end known parts p q most c n =
    let e : sum_by (most_ids known) c.rest ≡ 0 = ap (λ (ms : List Merge). sum_by (most_ids known) ms) (remain-none (G parts.traces) p q c.rest c.remain n) in
    omega (arith, c.sum)

-- what is added is no more than all pairs can have
pub sums-few : (known : Known) (parts : Parts) (p q most : ℕ) → HasIds parts → IsSumming known parts p q most → most ≤ MAX_PAIRS * longest_path
sums-few known parts p q most ids c =
    let s : most_in_all known parts ≤ length (pairs_below parts.used (G parts.traces)) * longest_path = sum-small known (pairs_below parts.used (G parts.traces)) in
    let n : length (pairs_below parts.used (G parts.traces)) ≤ MAX_PAIRS = pairs_within_limit (G parts.traces) parts.used ids.limit in
    omega (arith, c.sum)

-- a least violation keeps the bound of its pair
least-short : (known : Known) (parts : Parts) (inv : Invariant) (p q : ℕ) (path : List ℕ) → HasIds parts → IsTrueOf known parts → IsPair (G parts.traces) p q
    → IsLeastViolation (Merged (G parts.traces) p q) inv path → length path ≤ longest_path → length path ≤ most_ids known (pair_of p q)
least-short Nothing parts inv p q path ids t i v l = l
least-short (Ranks ranks falls) parts inv p q path ids t i v l =
    let g : Graph = G parts.traces in
    let below : IsBelow parts.used g = graphs_are_below parts.traces parts.used ids.two ids.below in
    let f : IsFormed g = graphs_are_formed parts.traces ids.typed in
    let r : length path ≤ rank_of ranks.now TERMINAL + 1 + 3 * (gap (rank_of ranks.now p) (rank_of ranks.now q) + falls_of ranks.now parts) =
    least-rising ranks.now g inv p q parts.used path i.low i.order (below q i.has_q)
    (λ u v e. let b : (g.listed u ≡ true) × (g.listed v ≡ true) = f.between u v e in (below u b.0, below v b.1)) v in
    omega (arith, t)

-- so the path of a block does
block-short : (invs : List Invariant) (known : Known) (parts : Parts) (b : Block) → HasIds parts → IsTrueOf known parts → IsBlock invs (G parts.traces) b
    → length b.path ≤ most_ids known (pair_of b.p b.q)
block-short invs known parts b ids t i =
    let g : Graph = G parts.traces in
    let o : (inv : Invariant) × (slice_get invs b.inv ≡ Some inv) × (Satisfies (Merged g b.p b.q) inv → ⊥) = broken (Merged g b.p b.q) invs b.inv i.first in
    let v : IsLeastViolation (Merged g b.p b.q) o.0 b.path = i.least o.0 o.1 in
    let f : IsFormed (Merged g b.p b.q) = (merged_are_formed g b.p b.q (graphs_are_formed parts.traces ids.typed) i.pair.low i.pair.order i.pair.has_p).0 in
    let l : length b.path ≤ longest_path =
    least_within_limit (Merged g b.p b.q) o.0 b.path parts.used f
    (merged_are_below g b.p b.q parts.used (graphs_are_below parts.traces parts.used ids.two ids.below)) ids.limit v in
    least-short known parts o.0 b.p b.q b.path ids t i.pair v l

-- and so do the paths of blocks together
blocks-short : (invs : List Invariant) (known : Known) (parts : Parts) (bs : List Block) → HasIds parts → IsTrueOf known parts → AllByRecursion (IsBlock invs (G parts.traces)) bs
    → block_numbers bs ≤ sum_by (most_ids known) (pairs_of bs)
blocks-short invs known parts [] ids t a = omega arith
blocks-short invs known parts (b ∷ bs) ids t a =
    let s : length b.path ≤ most_ids known (pair_of b.p b.q) = block-short invs known parts b ids t a.0 in
    let i : block_numbers bs ≤ sum_by (most_ids known) (pairs_of bs) = blocks-short invs known parts bs ids t a.1 in
    let d : block_numbers (b ∷ bs) ≡ length b.path + block_numbers bs = sum_by-cons (λ (x : Block). length x.path) b bs in
    let e : sum_by (most_ids known) (pairs_of (b ∷ bs)) ≡ most_ids known (pair_of b.p b.q) + sum_by (most_ids known) (pairs_of bs) = sum_by-cons (most_ids known) (pair_of b.p b.q) (pairs_of bs) in
    omega arith

-- where the bounds of all pairs fit, so do the paths of all blocks
pub all-fit : (invs : List Invariant) (known : Known) (parts : Parts) (blocks : List Block) (held : ℕ) → HasIds parts → IsTrueOf known parts
    → held + most_in_all known parts ≤ MAX_PATH_NUMBERS → EndsWithoutRoom invs parts blocks (held + block_numbers blocks) → ⊥
all-fit invs known parts blocks held ids t l w =
    let s : block_numbers blocks ≤ sum_by (most_ids known) (pairs_of blocks) = blocks-short invs known parts blocks ids t w.each in
    let n : length w.next.path ≤ most_ids known (pair_of w.next.p w.next.q) = block-short invs known parts w.next ids t w.is_block in
    let e : sum_by (most_ids known) (pairs_of blocks ++ pair_of w.next.p w.next.q ∷ w.rest) ≡ most_in_all known parts = ap (λ (ms : List Merge). sum_by (most_ids known) ms) w.pairs in
    let a : sum_by (most_ids known) (pairs_of blocks ++ pair_of w.next.p w.next.q ∷ w.rest) ≡ sum_by (most_ids known) (pairs_of blocks) + sum_by (most_ids known) (pair_of w.next.p w.next.q ∷ w.rest) =
    sum_by-append (most_ids known) (pairs_of blocks) (pair_of w.next.p w.next.q ∷ w.rest) in
    let c : sum_by (most_ids known) (pair_of w.next.p w.next.q ∷ w.rest) ≡ most_ids known (pair_of w.next.p w.next.q) + sum_by (most_ids known) w.rest =
    sum_by-cons (most_ids known) (pair_of w.next.p w.next.q) w.rest in
    omega (arith, w.too_long)
