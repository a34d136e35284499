use Rattle.partition_graph.specs.Seen.{seen}
use Rattle.path_finder.specs.declared.reach.Way.TheVariants.{Ahead, Behind}
use Rattle.path_finder.specs.Nearness.{is_met}
use Rattle.path_finder.specs.Reaching.{edge_by}
use Rattle.path_finder.proofs.reach.Around.find_type.Goals as goal

pub follow_all-requires : goal.follow_all-requires
follow_all-requires c = c.begin_with_type.ensures.ahead (edge_by Ahead (seen c.args.sight.now.view))

pub follow_all-requires-2 : goal.follow_all-requires-2
follow_all-requires-2 c = c.begin_with_type.ensures.behind (edge_by Behind (seen c.args.sight.now.view))

pub returns : goal.returns
returns c = record {
  ahead = is_met c.follow_all.new.self;
  behind = is_met c.follow_all-2.new.self;
  reaches = record {
    first = λ p t. c.follow_all.ensures.more.met p (c.begin_with_type.ensures.first_ahead p t);
    along = c.follow_all.ensures.closed;
  };
  comes = record {
    first = λ p t. c.follow_all-2.ensures.more.met p (c.begin_with_type.ensures.first_behind p t);
    along = c.follow_all-2.ensures.closed;
  };
  keeps_ahead = c.join-self.ensures.ahead;
  keeps_behind = c.join-self.ensures.behind;
}
