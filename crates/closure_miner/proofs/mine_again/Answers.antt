use Rattle.std.proofs.Common.{rules}
use Rattle.closure_miner.proofs.mine_again.Goals as goal

pub returns-then-types-le-WORD_TYPES : goal.returns-then-types-le-WORD_TYPES
returns-then-types-le-WORD_TYPES c = search rules
