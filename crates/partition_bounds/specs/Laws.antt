-- Laws on the number of pairs, of blocks, of ids in a path, and of splits.
use Rattle.std.specs.Prelude.{◌≡◌, ◌↔◌, ℕ, ◌+◌, ◌*◌, ◌-◌, ◌<◌, ◌≤◌, true, List, ◌++◌, length, Contains}
use Rattle.std.specs.List.{AllByRecursion}
use Rattle.limits.specs.declared.TheConstants.{FIRST_TYPE, MAX_PARTITIONS, MAX_PAIRS}
use Rattle.invariants.specs.declared.Invariant.{Invariant}
use Rattle.invariants.specs.declared.records.Split.{Split}
use Rattle.invariants.specs.declared.records.Merge.{Merge}
use Rattle.invariants.specs.declared.records.Block.{Block}
use Rattle.partition_model.specs.Graphs.{Graph, IsFormed, IsLeastViolation, Merged}
use Rattle.partition_model.specs.Assignments.{Assignment, G, IsTyped, by_type}
use Rattle.partition_model.specs.Listings.{AreBelow}
use Rattle.partition_model.specs.Refinement.{SatisfiesAll, IsNextSplit, Splits, Refines}
use Rattle.partition_model.specs.Coarsening.{merge, IsPair, Coarsens, IsBlock, AreBlocks}
use Rattle.partition_model.specs.Laws.{AreTyped, HoldAll, PairsAscend, IsAmong, Passes}
use Rattle.partition_bounds.specs.Pairs.{inner_count, longest_path, pairs_below, pairs_of}
use Rattle.model_shape.specs.Numbers.{split_numbers}

-- the listed ids of the graph are below the bound
abbrev pub IsBelow : ℕ → Graph → Type 0
IsBelow n g = (p : ℕ) → g.listed p ≡ true → p < n

-- if the ids of events are below n, so are those of the graph
abbrev pub GraphsAreBelow : Type 0
GraphsAreBelow = (h : Assignment) (n : ℕ) → FIRST_TYPE ≤ n → AreBelow n h → IsBelow n (G h)

-- so are those of a merged graph
abbrev pub MergedAreBelow : Type 0
MergedAreBelow = (g : Graph) (p q n : ℕ) → IsBelow n g → IsBelow n (Merged g p q)

-- and those of events after a merge
abbrev pub MergesStayBelow : Type 0
MergesStayBelow =
    (h : Assignment) (p q n : ℕ) → FIRST_TYPE ≤ n → IsPair (G h) p q → AreBelow n h
    → AreBelow n (merge p q h)

-- if the ids are below n, the list has exactly the pairs of one type, each once, ascending
abbrev pub PairsTell : Type 0
PairsTell =
    (g : Graph) (n : ℕ) → IsBelow n g
    → PairsAscend 0 0 (pairs_below n g) × ((p q : ℕ) → IsPair g p q ↔ IsAmong p q (pairs_below n g))

-- there are at most m * (m - 1) / 2 pairs, where m is the number of ids below n without the two ends
abbrev pub PairsAreFew : Type 0
PairsAreFew =
    (g : Graph) (n : ℕ) → 2 * length (pairs_below n g) ≤ inner_count n * (inner_count n - 1)

-- so there are at most MAX_PAIRS pairs if the ids keep the limit
abbrev pub PairsWithinLimit : Type 0
PairsWithinLimit = (g : Graph) (n : ℕ) → n ≤ MAX_PARTITIONS → length (pairs_below n g) ≤ MAX_PAIRS

-- one pass over this list makes the whole run of coarsening
abbrev pub PassCoarsens : Type 0
PassCoarsens =
    (invs : List Invariant) (h : Assignment) (n : ℕ) (merges : List Merge) (end : Assignment)
    → FIRST_TYPE ≤ n → IsTyped h → AreBelow n h
    → Passes invs h (pairs_below n (G h)) merges end → Coarsens invs h merges end

-- the blocks of a graph are those of its pairs, in their order
abbrev pub BlocksFollowPairs : Type 0
BlocksFollowPairs =
    (invs : List Invariant) (g : Graph) (n : ℕ) (blocks : List Block)
    → IsBelow n g → AreBlocks invs g blocks → pairs_of blocks ≡ pairs_below n g

-- and blocks with these pairs, each the block of its pair, are the blocks of the graph
abbrev pub PairsGiveBlocks : Type 0
PairsGiveBlocks =
    (invs : List Invariant) (g : Graph) (n : ℕ) (blocks : List Block)
    → IsBelow n g → pairs_of blocks ≡ pairs_below n g
    → AllByRecursion (IsBlock invs g) blocks → AreBlocks invs g blocks

-- a graph has at most one list of blocks
abbrev pub OneBlocks : Type 0
OneBlocks =
    (invs : List Invariant) (g : Graph) (a b : List Block)
    → AreBlocks invs g a → AreBlocks invs g b → a ≡ b

-- the graph of the merged assignment satisfies the invariants exactly if the merged graph does
abbrev pub MergeSatisfies : Type 0
MergeSatisfies =
    (h : Assignment) (p q : ℕ) → IsTyped h → IsPair (G h) p q → (invs : List Invariant)
    → SatisfiesAll (G (merge p q h)) invs ↔ SatisfiesAll (Merged (G h) p q) invs

-- each merge removes an id that is not an end, so there are at most as many merges as such ids
abbrev pub MergesAreFew : Type 0
MergesAreFew =
    (invs : List Invariant) (h : Assignment) (merges : List Merge) (end : Assignment) (n : ℕ)
    → FIRST_TYPE ≤ n → AreBelow n h → Coarsens invs h merges end
    → length merges + FIRST_TYPE ≤ n

-- a least violation has at most three times as many ids as a list of the graph's ids, less four:
-- no id occurs in it twice with the same state of the monitor, and each end occurs once
abbrev pub LeastIsShort : Type 0
LeastIsShort =
    (g : Graph) (inv : Invariant) (path ids : List ℕ)
    → IsFormed g → ((p : ℕ) → g.listed p ≡ true → Contains ids p)
    → IsLeastViolation g inv path → length path + 4 ≤ 3 * length ids

-- if the list has three ids or more, the bound is one less
abbrev pub LeastIsShorter : Type 0
LeastIsShorter =
    (g : Graph) (inv : Invariant) (path ids : List ℕ)
    → IsFormed g → ((p : ℕ) → g.listed p ≡ true → Contains ids p) → 3 ≤ length ids
    → IsLeastViolation g inv path → length path + 5 ≤ 3 * length ids

-- so a least violation has at most `longest_path` ids if the ids keep the limit
abbrev pub LeastWithinLimit : Type 0
LeastWithinLimit =
    (g : Graph) (inv : Invariant) (path : List ℕ) (n : ℕ) → IsFormed g → IsBelow n g
    → n ≤ MAX_PARTITIONS
    → IsLeastViolation g inv path → length path ≤ longest_path

-- if a run of refinement keeps the limit on ids, the paths of its splits together have at most
-- `longest_path` numbers for each split
abbrev pub SplitPathsWithinLimit : Type 0
SplitPathsWithinLimit =
    (invs : List Invariant) (words : List (List ℕ)) (n : ℕ) (splits : List Split) (end : Assignment)
    → AreTyped words n → HoldAll words invs → n + length splits ≤ MAX_PARTITIONS
    → Splits invs (by_type words) n splits end → split_numbers splits ≤ longest_path * length splits

-- the first splits of a run of refinement are a prefix of the whole run,
-- and the suffix is the whole run from where they lead
abbrev pub SplitsBegin : Type 0
SplitsBegin =
    (invs : List Invariant) (h mid end : Assignment) (n : ℕ) (a b : List Split)
    → Splits invs h n a mid → Refines invs h n b end
    → (rest : List Split) × (a ++ rest ≡ b) × Refines invs mid (n + length a) rest end

-- if there is a next split after the first ones, the whole run has more splits than these
abbrev pub StepsExclude : Type 0
StepsExclude =
    (invs : List Invariant) (h mid end : Assignment) (n : ℕ) (a b : List Split) (s : Split)
    → Splits invs h n a mid → IsNextSplit invs mid s
    → Refines invs h n b end → length a < length b
