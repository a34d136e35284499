use Rattle.std.proofs.Common.{◌≡◌, ◌<◌, ℕ, true, false}
use Rattle.invariants.specs.Monitors.{is_bad}
use Rattle.models.specs.Models.{has_state}
use Rattle.model_check.proofs.labels.is_good.Given as goal

abbrev pub invariant-loop-state : goal.invariant-loop-state
invariant-loop-state l = (s : ℕ) → s < l.state → has_state l.set s ≡ true → is_bad l.inv s ≡ false
