use Rattle.std.proofs.Common.{◌≡◌, ◌≤◌, length, ap, arith}
use Rattle.partition_graph.specs.Seen.{seen}
use Rattle.path_finder.specs.Nearness.{Met}
use Rattle.path_finder.specs.Reaching.{edge_by, MeetsMore}
use Rattle.path_finder.proofs.Reaching.{all_followed}
use Rattle.path_finder.proofs.reach.Reach.follow_all.Goals as goal

pub loop-next-preserved : goal.loop-next-preserved
loop-next-preserved c =
    let m : MeetsMore c.args.self.now c.loop-next.self = c.loop-next.invariant.more in
    record {
      reaching = c.follow.ensures.reaching;
      more = record {
        met = λ p e. c.follow.ensures.more.met p (m.met p e);
        listed = λ i p e. c.follow.ensures.more.listed i p (m.listed i p e);
      };
    }

pub returns-clause-closed : goal.returns-clause-closed
returns-clause-closed c =
    let v : length c.self.inside.list.items ≡ length c.loop-next.self.list = ap (λ (m : Met). length m.list) c.self.view_is in
    let l : length c.loop-next.self.list ≤ c.loop-next.next = omega (arith, c.loop-next-test.false, c.len.ensures, v) in
    all_followed (edge_by c.args.way (seen c.args.sight.now.view)) c.loop-next.next c.loop-next.self c.loop-next.invariant.reaching l
