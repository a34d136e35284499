-- Some invariants at a time.
use Rattle.std.specs.Prelude.{◌≡◌, ◌≤◌, ℕ, List, Some, slice_get}
use Rattle.limits.specs.declared.TheConstants.{LAST_TYPE}
use Rattle.invariants.specs.declared.Invariant.{Invariant}

-- each invariant names a type, or INITIAL
abbrev pub AreNamed : List Invariant → Type 0
AreNamed invs = (k : ℕ) (inv : Invariant) → slice_get invs k ≡ Some inv → (inv.a ≤ LAST_TYPE) × (inv.b ≤ LAST_TYPE)
