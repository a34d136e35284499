use Rattle.std.proofs.Common.{arith}
use Rattle.log_reader.proofs.Feeds.{look-found}
use Rattle.log_reader.proofs.line_reader.feed_search.near_feed.Goals as goal

pub returns-then-before-lt-LANES-clause-some : goal.returns-then-before-lt-LANES-clause-some
returns-then-before-lt-LANES-clause-some c =
    omega (arith, look-found 0 16 c.before_feed-before.result c.args.bytes.now (omega arith) (omega arith) c.before_feed-before.ensures (omega arith))
