use Rattle.std.proofs.Common.{◌+◌, arith}
use Rattle.count_miner.proofs.Sums.{type-count-le}
use Rattle.count_miner.proofs.counting.add_unread.Goals as goal

pub add_counts-requires-clause-room : goal.add_counts-requires-clause-room
add_counts-requires-clause-room c = λ k inside. omega (arith, c.requires.left k inside, type-count-le (k + 2) c.args.unread.now, c.requires.room k inside)
