use Rattle.std.specs.Prelude.{◌≤◌}
use Rattle.tests.proofs.basics.candidates.monitor.Given as goal

abbrev pub invariant-states : goal.invariant-states
invariant-states l = l.state ≤ 2
