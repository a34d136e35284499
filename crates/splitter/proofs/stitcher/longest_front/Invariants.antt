use Rattle.splitter.proofs.Following.{IsLookedAt}
use Rattle.splitter.proofs.stitcher.longest_front.Given as goal

abbrev pub invariant-loop-t : goal.invariant-loop-t
invariant-loop-t l = IsLookedAt l.graph.traces l.path l.t l.longest l.first
