use Rattle.std.proofs.Common.{arith}
use Rattle.log_reader.proofs.Feeds.{look-found, look-none}
use Rattle.log_reader.proofs.line_reader.feed_search.next_feed.Goals as goal

pub returns-then-before-lt-LANES-clause-some : goal.returns-then-before-lt-LANES-clause-some
returns-then-before-lt-LANES-clause-some c =
    look-found 16 16 c.before_feed-before.result c.args.bytes.now c.requires.inside c.requires.before c.before_feed-before.ensures (omega arith)

pub further_feed-requires-clause-before : goal.further_feed-requires-clause-before
further_feed-requires-clause-before c =
    look-none 16 16 c.before_feed-before.result c.args.bytes.now (omega arith) c.requires.before c.before_feed-before.ensures (omega arith)
