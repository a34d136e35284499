-- Numbers given to a command.
use Rattle.std.specs.Prelude.{ℕ, ◌&&◌, Bool, List, length, nat_le, Option, Some, None, if◌then◌else◌}
use Rattle.std.specs.List.{list_all}
use Rattle.std.specs.Str.Parse.{digits_value}
use Rattle.limits.specs.declared.TheConstants.{MAX_SESSIONS}

-- an ASCII digit
abbrev pub is_digit : ℕ → Bool
is_digit b = nat_le 48 b && nat_le b 57

-- 1 to 5 ASCII digits
abbrev pub are_digits : List ℕ → Bool
are_digits text = nat_le 1 (length text) && (nat_le (length text) 5 && list_all is_digit text)

-- a number of sessions from 1 to the limit
abbrev pub is_number : ℕ → Bool
is_number n = nat_le 1 n && nat_le n MAX_SESSIONS

-- the number that a text gives: 1 to 5 digits, with a value from 1 to the limit
abbrev pub number_of : List ℕ → Option ℕ
number_of text =
    if are_digits text && is_number (digits_value 10 text) then Some (digits_value 10 text) else None
