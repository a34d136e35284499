use Rattle.std.proofs.Common.{◌*◌, arith}
use Rattle.log_reader.proofs.Feeds.{look-found, look-none}
use Rattle.log_reader.proofs.line_reader.feed_search.further_feed.Goals as goal

pub returns-then-before-lt-LANES-clause-some : goal.returns-then-before-lt-LANES-clause-some
returns-then-before-lt-LANES-clause-some c =
    let l = c.loop-look in
    look-found (l.look * 16) 16 c.before_feed-before.result c.args.bytes.now (omega arith) l.invariant c.before_feed-before.ensures (omega arith)

pub loop-look-preserved : goal.loop-look-preserved
loop-look-preserved c =
    let l = c.loop-look in
    omega (arith, look-none (l.look * 16) 16 c.before_feed-before.result c.args.bytes.now (omega arith) l.invariant c.before_feed-before.ensures (omega arith))
