-- The next number with a property.
use Rattle.std.specs.Prelude.{ℕ, ◌≡◌, ◌<◌, ◌≤◌, Bool, true, false, nat_le, if◌then◌else◌, Option, Some, None, MatchOption}

-- no number at or above this one has the property
abbrev pub HasNone : (ℕ → Bool) → ℕ → Type 0
HasNone has from = (n : ℕ) → from ≤ n → has n ≡ false

-- n is the least number at or above this one that has the property
pub record IsNext (has : ℕ → Bool) (from n : ℕ) : Type 0 where
  pub reached : from ≤ n
  pub there : has n ≡ true
  pub first : (k : ℕ) → from ≤ k → k < n → has k ≡ false

-- the least such number, or none if there is none
abbrev pub IsNextAnswer : (ℕ → Bool) → ℕ → Option ℕ → Type 0
IsNextAnswer has from answer = MatchOption answer (HasNone has from) (λ n. IsNext has from n)

-- the lesser of two numbers, either of which may be missing
abbrev pub lesser : Option ℕ → Option ℕ → Option ℕ
lesser None b = b
lesser (Some x) None = Some x
lesser (Some x) (Some y) = if nat_le x y then Some x else Some y
