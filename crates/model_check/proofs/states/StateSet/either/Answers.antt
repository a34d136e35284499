use Rattle.model_check.proofs.SmallSets.{either-label, either-states}
use Rattle.model_check.proofs.states.StateSet.either.Goals as goal

pub invariant_of-result : goal.invariant_of-result
invariant_of-result c = either-label c.self.inside.0 c.other.inside.0 c.self.invariant c.other.invariant

pub returns : goal.returns
returns c = rw (← c.self.view_is, ← c.other.view_is) (either-states c.self.inside.0 c.other.inside.0 c.self.invariant c.other.invariant)
