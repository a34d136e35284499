-- Sets of types, each with a bit for each type, at the type's place.
use Rattle.std.specs.Prelude.{ℕ, zero, suc, ◌≡◌, ◌<◌, ◌==◌, Bool, true, false, List, [], ◌∷◌}
use Rattle.std.specs.Int.{bit_at}

-- whether the type at this place is in the set of one word: its bit is 1
abbrev pub in_word : ℕ → ℕ → Bool
in_word set i = bit_at set i == 1

-- whether the set of the type at place a has the type at place b; past the last set none has
abbrev pub has_at : {S : Type 0} → (S → ℕ → Bool) → List S → ℕ → ℕ → Bool
has_at has [] a b = false
has_at has (set ∷ sets) zero b = has set b
has_at has (set ∷ sets) (suc a) b = has_at has sets a b

-- each of this many types is in the set
abbrev pub HasAll : {S : Type 0} → (S → ℕ → Bool) → ℕ → S → Type 0
HasAll has types set = (b : ℕ) → b < types → has set b ≡ true
