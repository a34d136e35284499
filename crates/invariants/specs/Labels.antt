-- Labels and their digits.
use Rattle.std.specs.Prelude.{ℕ, ◌≤◌, ◌+◌, ◌-◌}

-- a label is a set of the three states, as a number
abbrev pub IsLabel : ℕ → Type 0
IsLabel label = label ≤ 7

-- the byte of a digit from 0 to 7
abbrev pub IsDigit : ℕ → Type 0
IsDigit byte = (48 ≤ byte) × (byte ≤ 55)

-- the digit of a number
abbrev pub digit_of : ℕ → ℕ
digit_of number = 48 + number

-- the number of a digit
abbrev pub number_of : ℕ → ℕ
number_of byte = byte - 48
