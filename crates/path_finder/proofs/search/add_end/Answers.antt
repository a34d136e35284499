use Rattle.std.proofs.Common.{sym, ◌∙◌}
use Rattle.path_finder.specs.Asking.{asked}
use Rattle.path_finder.proofs.Ends.{ends-more}
use Rattle.path_finder.proofs.search.add_end.Goals as goal

pub returns-then-is_bad : goal.returns-then-is_bad
returns-then-is_bad c =
    ends-more (asked c.args.question.now) c.args.state c.args.found.now c.add.new.self c.requires.ends c.add.ensures.marked c.add.ensures.added (sym c.is_bad.ensures ∙ c.if-is_bad.true)
