use Rattle.log_reader.proofs.Feeds.{search-found, search-none}
use Rattle.log_reader.proofs.line_reader.feed_search.search_feed.Goals as goal

pub returns-in-Some-clause-some : goal.returns-in-Some-clause-some
returns-in-Some-clause-some c = search-found c.args.searched c.in-Some.n c.args.bytes.now c.requires.inside c.requires.before c.in-Some.ensures

pub returns-in-None-clause-none : goal.returns-in-None-clause-none
returns-in-None-clause-none c = search-none c.args.searched c.args.bytes.now c.requires.inside c.requires.before c.in-None.ensures
