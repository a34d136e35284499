use Rattle.std.proofs.Common.{◌+◌, ◌-◌, arith, rules}
use Rattle.splitter.proofs.Following.{longest-left, longest-past, longest-end, event-there, first-le}
use Rattle.splitter.proofs.stitcher.longest_with.Goals.{then-place-count-2-via-then-place-count-2, then-place-count-2-via-else-place-count-2+then-path-longest-ne-TERMINAL}
use Rattle.splitter.proofs.stitcher.longest_with.Goals as goal

pub overflow_sub-count : goal.overflow_sub-count
overflow_sub-count c = omega (arith, first-le c.args.graph.now.traces c.args.t c.requires.there)

pub part_of-requires : goal.part_of-requires
part_of-requires c =
    event-there c.args.graph.now.traces c.args.t (c.args.first + (c.args.longest - 1)) c.args.end c.requires.there (omega arith) c.requires.end

pub returns-then-part_of-path : goal.returns-then-part_of-path
returns-then-part_of-path c =
    longest-left c.args.graph.now.traces c.args.path.now c.args.t c.args.first c.args.end (c.args.first + (c.args.longest - 1)) c.args.longest c.part_of.result c.requires.there c.requires.first c.requires.end (omega arith) (omega arith) (omega arith) c.part_of.ensures.there c.requires.within c.if-part_of-path.true

pub returns-then-place-count-2 : goal.returns-then-place-count-2
returns-then-place-count-2 c =
    elim c.then-place-count-2.branch [
      | then-place-count-2-via-then-place-count-2 w ↦
          longest-past c.args.graph.now.traces c.args.path.now c.args.t c.args.first c.args.end c.args.longest c.requires.there c.requires.first c.requires.end (omega arith) c.requires.within
      | then-place-count-2-via-else-place-count-2+then-path-longest-ne-TERMINAL w ↦
          longest-end c.args.graph.now.traces c.args.path.now c.args.t c.args.first c.args.end c.args.longest c.requires.there c.requires.first c.requires.end (omega arith) c.requires.within w.if-path-longest-ne-TERMINAL.true
    ]

pub returns : goal.returns
returns c = search rules
