use Rattle.std.proofs.Common.{◌≡◌, drop, map}
use Rattle.model_file.specs.Rules.{ascends_from, ascends, pair_less}
use Rattle.model_file.proofs.history.blocks_ascend.Given as goal

abbrev pub invariant-each_block : goal.invariant-each_block
invariant-each_block l = ascends_from pair_less l.before (map (λ b. (b.p, b.q)) (drop l.block-index l.blocks)) ≡ ascends pair_less (map (λ b. (b.p, b.q)) l.blocks)
