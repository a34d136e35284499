use Rattle.std.proofs.Common.{arith}
use Rattle.splitter.proofs.Following.{front-there}
use Rattle.splitter.proofs.stitcher.Stitcher.place_before_end.Goals as goal

pub overflow_sub-result : goal.overflow_sub-result
overflow_sub-result c =
    omega (arith, c.longest_front.ensures, front-there c.args.graph.now.traces c.args.path.now c.requires.some c.requires.starts)
