-- The times of events.
use Rattle.std.specs.Prelude.{◌≡◌, ℕ, ◌+◌, ◌*◌, ◌-◌, ◌^◌, ◌<◌, ◌≤◌, ◌==◌, ◌&&◌, Bool, true, false, List, length, take, slice_index, nat_lt, nat_le, Option, Some, None, if◌then◌else◌}
use Rattle.std.specs.List.{list_any, list_all, before_first, after_first}
use Rattle.std.specs.Str.Parse.{digits_value}

-- an ASCII digit
abbrev pub is_digit : ℕ → Bool
is_digit b = nat_le 48 b && nat_le b 57

-- the point between the whole part and the fraction
abbrev pub is_point : ℕ → Bool
is_point b = b == 46

-- 1 to this many digits
abbrev pub are_digits : ℕ → List ℕ → Bool
are_digits most text = nat_lt 0 (length text) && (nat_le (length text) most && list_all is_digit text)

-- the billionths of a whole number of 1 to 18 digits
abbrev pub whole_time : List ℕ → Option ℕ
whole_time text = if are_digits 18 text then Some (digits_value 10 text * 10 ^ 9) else None

-- the billionths of a whole number of 1 to 18 digits with a fraction of 1 to 9
abbrev pub fractional_time : List ℕ → List ℕ → Option ℕ
fractional_time whole fraction =
    if are_digits 18 whole && are_digits 9 fraction
    then Some (digits_value 10 whole * 10 ^ 9 + digits_value 10 fraction * 10 ^ (9 - length fraction))
    else None

-- The time in a text, in billionths: 1 to 18 digits, which a point and 1 to 9 digits may follow.
abbrev pub time_of : List ℕ → Option ℕ
time_of text =
    if list_any is_point text then fractional_time (before_first is_point text) (after_first is_point text)
    else whole_time text

-- the billionths of a fraction of 1 to 9 digits
abbrev pub billionths : List ℕ → Option ℕ
billionths fraction = if are_digits 9 fraction then Some (digits_value 10 fraction * 10 ^ (9 - length fraction)) else None

-- the digits at the head of a text, at most so many: the number that they write, and how many they are
pub record IsHead (most : ℕ) (text : List ℕ) (number count : ℕ) : Type 0 where
  pub within : count ≤ length text
  pub few : count ≤ most
  pub digits : list_all is_digit (take count text) ≡ true
  pub value : number ≡ digits_value 10 (take count text)
  pub ends : count < most → count < length text → is_digit (slice_index text count) ≡ false
