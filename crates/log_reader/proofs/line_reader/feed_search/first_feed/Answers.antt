use Rattle.std.proofs.Common.{arith}
use Rattle.log_reader.proofs.Feeds.{look-found, look-none}
use Rattle.log_reader.proofs.line_reader.feed_search.first_feed.Goals as goal

pub search_feed-requires-2-clause-before : goal.search_feed-requires-2-clause-before
search_feed-requires-2-clause-before c =
    look-none c.args.searched 16 c.before_feed-before.result c.args.bytes.now (omega arith) c.requires.before c.before_feed-before.ensures (omega arith)

pub returns-then-before-lt-LANES-clause-some : goal.returns-then-before-lt-LANES-clause-some
returns-then-before-lt-LANES-clause-some c =
    look-found c.args.searched 16 c.before_feed-before.result c.args.bytes.now c.requires.inside c.requires.before c.before_feed-before.ensures (omega arith)
