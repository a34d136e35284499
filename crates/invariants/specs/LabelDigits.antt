-- Where the digits of labels are kept.
use Rattle.std.specs.Prelude.{◌≡◌, ℕ, List, All, ◌≤◌, ◌+◌, drop, length, map, take}
use Rattle.invariants.specs.Labels.{IsDigit, number_of}
use Rattle.invariants.specs.declared.labels.Digits.{Digits}
use Rattle.invariants.specs.declared.labels.Digits.TheVariants.{Few, Part}

-- the digits
abbrev pub digits_in : Digits → List ℕ
digits_in (Few count bytes) = take count bytes
digits_in (Part text from count) = take count (drop from text.value.items)

-- the numbers
abbrev pub numbers_in : Digits → List ℕ
numbers_in digits = map number_of (digits_in digits)

-- the bytes are there
abbrev pub IsWithin : Digits → Type 0
IsWithin (Few count bytes) = (count ≤ 16) × (length bytes ≡ 16)
IsWithin (Part text from count) = from + count ≤ length text.value.items

-- all of them are digits, and as many as there should be
abbrev pub AreDigits : Digits → Type 0
AreDigits digits = IsWithin digits × All IsDigit (digits_in digits)
