-- How many ids the paths of blocks have at most.
use Rattle.std.specs.Prelude.{◌≡◌, ℕ, zero, suc, ◌+◌, ◌*◌, ◌-◌, if◌then◌else◌, List, max, min, slice_index, sum_by}
use Rattle.limits.specs.declared.TheConstants.{TERMINAL}
use Rattle.invariants.specs.declared.records.Merge.{Merge}
use Rattle.partition_model.specs.Graphs.{Graph}
use Rattle.partition_model.specs.Assignments.{G}
use Rattle.partition_bounds.specs.Pairs.{longest_path, pairs_below}
use Rattle.partition_graph.specs.Parts.{Parts}
use Rattle.coarsener.specs.declared.fitting.Known.{Known}
use Rattle.coarsener.specs.declared.fitting.Known.TheVariants.{Nothing, Ranks}

-- the rank of an id, 0 where the list has none
abbrev pub rank_of : List ℕ → ℕ → ℕ
rank_of ranks p = slice_index ranks p

-- how far two numbers are apart
abbrev pub gap : ℕ → ℕ → ℕ
gap a b = (a - b) + (b - a)

-- how much has to be added to the rank of p so that it is higher than the rank of each id below n with an edge to p
abbrev pub fall_to : List ℕ → Graph → ℕ → ℕ → ℕ
fall_to ranks g p zero = 0
fall_to ranks g p (suc n) =
    max (fall_to ranks g p n) (if g.edge n p then rank_of ranks n + 1 - rank_of ranks p else 0)

-- the sum of the values of the numbers below n
abbrev pub sum_below : (ℕ → ℕ) → ℕ → ℕ
sum_below f zero = 0
sum_below f (suc n) = sum_below f n + f n

-- how much has to be added to the ranks of all ids, in total, so that each edge leads to a higher number
abbrev pub falls_of : List ℕ → Parts → ℕ
falls_of ranks parts = sum_below (λ p. fall_to ranks (G parts.traces) p parts.used) parts.used

-- what is known of a graph is true
abbrev pub IsTrueOf : Known → Parts → Type 0
IsTrueOf Nothing parts = Unit {0}
IsTrueOf (Ranks ranks falls) parts = falls ≡ falls_of ranks.now parts

-- how many ids the path of the block of a pair has at most: along a walk the ranks rise, except that they fall where it
-- comes to some ids, and to the id of the merge. It comes to each at most once for each state of the monitor.
abbrev pub most_ids : Known → Merge → ℕ
most_ids Nothing m = longest_path
most_ids (Ranks ranks falls) m =
    min longest_path
    (rank_of ranks.now TERMINAL + 1 + 3 * (gap (rank_of ranks.now m.p) (rank_of ranks.now m.q) + falls))

-- how many the paths of the blocks of all pairs have together at most
abbrev pub most_in_all : Known → Parts → ℕ
most_in_all known parts = sum_by (most_ids known) (pairs_below parts.used (G parts.traces))
