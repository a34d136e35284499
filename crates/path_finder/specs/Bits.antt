-- The bits of a word.
use Rattle.std.specs.Prelude.{ℕ, ◌≡◌, ◌<◌}
use Rattle.std.specs.Int.{bit_at}

-- the bit is on, and all below it are off
pub record IsLowestBit (word place : ℕ) : Type 0 where
  pub on : bit_at word place ≡ 1
  pub below : (i : ℕ) → i < place → bit_at word i ≡ 0
