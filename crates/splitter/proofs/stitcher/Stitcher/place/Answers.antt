use Rattle.std.proofs.Common.{arith}
use Rattle.splitter.proofs.Following.{followed-within, front-there}
use Rattle.splitter.proofs.stitcher.Stitcher.place.Goals as goal

pub longest_front-requires-clause-most : goal.longest_front-requires-clause-most
longest_front-requires-clause-most c =
    followed-within c.args.graph.now.traces c.args.path.now c.requires.some c.requires.starts

pub overflow_sub-result : goal.overflow_sub-result
overflow_sub-result c =
    omega (arith, c.longest_front.ensures, front-there c.args.graph.now.traces c.args.path.now c.requires.some c.requires.starts)

pub returns-clause-within : goal.returns-clause-within
returns-clause-within c =
    omega (arith, c.longest_front.ensures, front-there c.args.graph.now.traces c.args.path.now c.requires.some c.requires.starts, followed-within c.args.graph.now.traces c.args.path.now c.requires.some c.requires.starts)
