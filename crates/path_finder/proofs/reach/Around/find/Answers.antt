use Rattle.path_finder.specs.Nearness.{is_met}
use Rattle.path_finder.proofs.reach.Around.find.Goals as goal

pub returns : goal.returns
returns c = record {
  ahead = is_met c.reach_from.new.self;
  behind = is_met c.reach_from-2.new.self;
  reaches = c.reach_from.ensures;
  comes = c.reach_from-2.ensures;
  keeps_ahead = c.join-self.ensures.ahead;
  keeps_behind = c.join-self.ensures.behind;
}
