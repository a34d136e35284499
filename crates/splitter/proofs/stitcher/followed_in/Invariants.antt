use Rattle.splitter.proofs.Following.{IsFollowing}
use Rattle.splitter.proofs.stitcher.followed_in.Given as goal

abbrev pub invariant-loop-event : goal.invariant-loop-event
invariant-loop-event l = IsFollowing l.graph.traces l.path l.t l.place l.event
