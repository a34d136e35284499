-- Words with a bit for each of 64 numbers.
use Rattle.std.specs.Prelude.{ℕ, ◌≡◌, ◌+◌, ◌*◌, ◌<◌, ◌==◌, Bool, false}
use Rattle.std.specs.Int.{bit_at}

-- bit i of the word says whether the number 64 * place + i has the property
abbrev pub IsWordOf : (ℕ → Bool) → ℕ → ℕ → Type 0
IsWordOf has place word = (i : ℕ) → i < 64 → (bit_at word i == 1) ≡ has (place * 64 + i)

-- the bits of the word are the marks of the first 64 places, and the 64 numbers of a place without a mark do not have the property
pub record ArePlaces (has : ℕ → Bool) (word : ℕ) : Type 0 where
  pub marks : ℕ → Bool
  pub bits : IsWordOf marks 0 word
  pub others : (place i : ℕ) → i < 64 → marks place ≡ false → has (place * 64 + i) ≡ false
