use Rattle.std.proofs.Common.{◌≡◌, drop}
use Rattle.std.specs.List.{list_all}
use Rattle.model_file.specs.Rules.{block_holds}
use Rattle.model_file.specs.Table.{type_at}
use Rattle.model_file.proofs.history.blocks_hold.Given as goal

abbrev pub invariant-each_block : goal.invariant-each_block
invariant-each_block l = list_all (block_holds (type_at l.table) l.invariants) (drop l.block-index l.blocks) ≡ list_all (block_holds (type_at l.table) l.invariants) l.blocks
