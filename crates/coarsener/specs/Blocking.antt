-- Where the list of blocks runs out of room.
use Rattle.std.specs.Prelude.{◌≡◌, ℕ, ◌+◌, ◌<◌, List, ◌∷◌, ◌++◌, length}
use Rattle.std.specs.List.{AllByRecursion, flat_map}
use Rattle.limits.specs.declared.TheConstants.{MAX_PATH_NUMBERS}
use Rattle.invariants.specs.declared.Invariant.{Invariant}
use Rattle.invariants.specs.declared.records.Merge.{Merge}
use Rattle.invariants.specs.declared.records.Block.{Block}
use Rattle.partition_model.specs.Assignments.{G}
use Rattle.partition_model.specs.Coarsening.{IsBlock}
use Rattle.partition_bounds.specs.Pairs.{pair_of, pairs_of, pairs_below}
use Rattle.partition_graph.specs.Parts.{Parts}

-- the paths of blocks, one after another
abbrev pub paths_of : List Block → List ℕ
paths_of blocks = flat_map (λ b. b.path) blocks

-- how many pairs of one type there are
abbrev pub pair_count : Parts → ℕ
pair_count parts = length (pairs_below parts.used (G parts.traces))

-- the blocks are those of the first pairs, and there is no room for the path of the next block
pub record EndsWithoutRoom (invs : List Invariant) (parts : Parts) (blocks : List Block)
    (held : ℕ) : Type 0 where
  pub next : Block
  pub rest : List Merge
  pub pairs : pairs_of blocks ++ pair_of next.p next.q ∷ rest ≡ pairs_below parts.used (G parts.traces)
  pub each : AllByRecursion (IsBlock invs (G parts.traces)) blocks
  pub is_block : IsBlock invs (G parts.traces) next
  pub too_long : MAX_PATH_NUMBERS < held + length next.path
