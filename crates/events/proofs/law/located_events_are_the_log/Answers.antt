use Rattle.events.proofs.Locating.{without-lines}
use Rattle.events.proofs.Ordering.{times-of-trace, types-of-trace}
use Rattle.events.proofs.law.located_events_are_the_log.Goals as goal

pub returns-clause-lines : goal.returns-clause-lines
returns-clause-lines c = λ s lines. without-lines s lines

pub returns-clause-types : goal.returns-clause-types
returns-clause-types c = λ s lines k key at. types-of-trace s lines k key at

pub returns-clause-times : goal.returns-clause-times
returns-clause-times c = λ s lines k key at. times-of-trace s lines k key at
