use Rattle.std.proofs.Common.{◌≡◌, ℕ, ◌<◌, false}
use Rattle.closure_miner.specs.Rows.{in_row}
use Rattle.closure_miner.specs.Sets.{has_at}
use Rattle.closure_miner.proofs.between.are_empty.Given as goal

abbrev pub invariant-loop-row : goal.invariant-loop-row
invariant-loop-row l = (a b : ℕ) → a < l.row-index → has_at in_row l.rows a b ≡ false
