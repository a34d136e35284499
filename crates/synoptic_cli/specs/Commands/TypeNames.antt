-- Types that occur in an answer.
use Rattle.std.specs.Prelude.{ℕ, ◌≤◌, ◌-◌, List, IsSome, slice_get}
use Rattle.limits.specs.declared.TheConstants.{FIRST_TYPE}

-- the number is that of a type that has a text
abbrev pub HasText : List (List ℕ) → ℕ → Type 0
HasText types typ = (FIRST_TYPE ≤ typ) × IsSome (slice_get types (typ - FIRST_TYPE))
