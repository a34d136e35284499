use Rattle.path_finder.specs.Asking.{asked}
use Rattle.path_finder.specs.Levels.{HasEndsBelow}
use Rattle.path_finder.proofs.search.ends.Given as goal

abbrev pub invariant-loop-state : goal.invariant-loop-state
invariant-loop-state l = HasEndsBelow (asked l.question) l.state l.found
