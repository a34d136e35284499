use Rattle.std.proofs.Common.{◌≡◌, drop, nat_le}
use Rattle.model_shape.specs.Numbers.{block_numbers}
use Rattle.model_file.proofs.history.blocks_fit.Given as goal

abbrev pub invariant-each_block : goal.invariant-each_block
invariant-each_block l = nat_le (block_numbers (drop l.block-index l.blocks)) l.room ≡ nat_le (block_numbers l.blocks) l.fn.room
