use Rattle.std.proofs.Common.{◌≡◌, ℕ, ◌<◌, ◌≤◌, slice_get, Some}
use Rattle.invariants.specs.declared.Invariant.{Invariant}
use Rattle.limits.specs.declared.TheConstants.{LAST_TYPE}
use Rattle.tests.proofs.graphs.known.are_named.Given as goal

abbrev pub invariant-loop-inv : goal.invariant-loop-inv
invariant-loop-inv l = (k : ℕ) (inv : Invariant) → k < l.inv-index → slice_get l.invs k ≡ Some inv → (inv.a ≤ LAST_TYPE) × (inv.b ≤ LAST_TYPE)
