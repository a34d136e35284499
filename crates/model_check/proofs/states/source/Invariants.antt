use Rattle.model_check.proofs.Sources.{IsSourceBelow}
use Rattle.model_check.proofs.states.source.Given as goal

abbrev pub invariant-loop-state : goal.invariant-loop-state
invariant-loop-state l = IsSourceBelow l.inv l.typ l.set l.state l.source
