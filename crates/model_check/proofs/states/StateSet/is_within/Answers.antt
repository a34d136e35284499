use Rattle.model_check.proofs.SmallSets.{within-states, states-within}
use Rattle.model_check.proofs.states.StateSet.is_within.Goals as goal

pub returns : goal.returns
returns c = rw (← c.self.view_is, ← c.other.view_is) (
  λ e. within-states c.self.inside.0 c.other.inside.0 c.self.invariant c.other.invariant e,
  λ f. states-within c.self.inside.0 c.other.inside.0 c.self.invariant c.other.invariant f,
)
