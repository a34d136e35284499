-- How many numbers the paths of a model contain.
use Rattle.std.specs.Prelude.{ℕ, List, length, sum_by}
use Rattle.invariants.specs.declared.records.Split.{Split}
use Rattle.invariants.specs.declared.records.Block.{Block}

-- the total for the paths of splits
abbrev pub split_numbers : List Split → ℕ
split_numbers splits = sum_by (λ s. length s.path) splits

-- the total for the paths of blocks
abbrev pub block_numbers : List Block → ℕ
block_numbers blocks = sum_by (λ b. length b.path) blocks
