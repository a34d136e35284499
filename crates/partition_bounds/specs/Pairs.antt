-- The pairs of partitions of one type, as a list, and the bounds.
use Rattle.std.specs.Prelude.{ℕ, ◌*◌, ◌-◌, ◌==◌, ◌&&◌, Bool, nat_lt, List, map, filter}
use Rattle.std.specs.List.{flat_map}
use Rattle.limits.specs.declared.TheConstants.{TERMINAL, FIRST_TYPE, MAX_PARTITIONS}
use Rattle.invariants.specs.declared.records.Merge.{Merge}
use Rattle.invariants.specs.declared.records.Block.{Block}
use Rattle.partition_model.specs.Graphs.{Graph}
use Rattle.partition_model.specs.Listings.{ids_below}

-- whether two ids above the two ends are a pair of one type, the lower one first
abbrev pub is_pair : Graph → ℕ → ℕ → Bool
is_pair g p q = nat_lt TERMINAL p && nat_lt p q && g.listed p && g.listed q && g.typ p == g.typ q

-- two ids as a merge
abbrev pub pair_of : ℕ → ℕ → Merge
pair_of p q = record { p = p; q = q }

-- the pairs of p with ids below n, ascending
abbrev pub pairs_from : ℕ → Graph → ℕ → List Merge
pairs_from n g p = map (pair_of p) (filter (is_pair g p) (ids_below n))

-- the pairs of ids below n, ascending
abbrev pub pairs_below : ℕ → Graph → List Merge
pairs_below n g = flat_map (pairs_from n g) (ids_below n)

-- the pairs of blocks
abbrev pub pairs_of : List Block → List Merge
pairs_of blocks = map (λ b. pair_of b.p b.q) blocks

-- how many of n ids are not ends
abbrev pub inner_count : ℕ → ℕ
inner_count n = n - FIRST_TYPE

-- the most ids that a least violation has: three times the limit on ids, less five
abbrev pub longest_path : ℕ
longest_path = 3 * MAX_PARTITIONS - 5
