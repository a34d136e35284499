use Rattle.std.proofs.Common.{arith}
use Rattle.splitter.proofs.Following.{looked-enough, looked-more, looked-whole}
use Rattle.splitter.proofs.stitcher.longest_front.Goals as goal

pub returns-then-longest-most : goal.returns-then-longest-most
returns-then-longest-most c =
    looked-enough c.args.graph.now.traces c.args.path.now c.loop-t.t c.loop-t.longest c.loop-t.first c.args.most c.requires.some c.requires.starts c.requires.most c.loop-t.invariant (omega arith)

pub loop-t-preserved : goal.loop-t-preserved
loop-t-preserved c =
    looked-more c.args.graph.now.traces c.args.path.now c.loop-t.t c.loop-t.longest c.loop-t.first c.longest_with-longest.result c.end_of-end.result (omega arith) c.loop-t.invariant c.longest_with-longest.ensures c.end_of-end.ensures

pub returns : goal.returns
returns c =
    looked-whole c.args.graph.now.traces c.args.path.now c.loop-t.t c.loop-t.longest c.loop-t.first c.requires.some c.requires.starts c.loop-t.invariant (omega arith)
