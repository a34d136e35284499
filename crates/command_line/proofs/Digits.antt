-- What digits say.
use Rattle.std.proofs.Common.{◌≡◌, ◌<◌, ◌≤◌, ◌^◌, ◌+◌, ◌-◌, ◌*◌, ℕ, zero, suc, true, List, [], ◌∷◌, length, get_or, take, take_all, sym, ap, subst, ◌∙◌, arith, rules, ◌&&◌}
use Rattle.std.proofs.lemmas.Int.Digits.{digits_value_more}
use Rattle.std.proofs.lemmas.Str.{digit_value_digit}
use Rattle.std.specs.Int.{IsInRange}
use Rattle.std.specs.Prelude.{nat_le}
use Rattle.std.specs.List.{list_all}
use Rattle.std.specs.Str.Parse.{digits_value}
use Rattle.std.proofs.lemmas.Bool.{and_parts, leb-true}
use Rattle.std.proofs.lemmas.Str.Parse.{IsNumeralModel, numerals_by_value, digits_value_short, digits_value-take-le}
use Rattle.command_line.specs.Numbers.{is_digit, are_digits}

own : IsNumeralModel (λ ds. list_all is_digit ds ≡ true) (digits_value 10)
own = numerals_by_value _ (search rules)

-- 1 to 5 digits
pub record AreDigits (ds : List ℕ) : Type 0 where
  pub some : 0 < length ds
  pub few : length ds ≤ 5
  pub digits : list_all is_digit ds ≡ true

-- a text that passes the test is 1 to 5 digits
pub digits-parts : (ds : List ℕ) → are_digits ds ≡ true → AreDigits ds
digits-parts ds are =
    let one = and_parts (nat_le 1 (length ds)) (nat_le (length ds) 5 && list_all is_digit ds) are in
    let two = and_parts (nat_le (length ds) 5) (list_all is_digit ds) one.1 in
    record { some = leb-true 1 (length ds) one.0; few = leb-true (length ds) 5 two.0; digits = two.1 }

-- so few digits write a small number
pub small-number : (ds : List ℕ) → are_digits ds ≡ true → digits_value 10 ds < 10 ^ 5
small-number ds are = let is = digits-parts ds are in digits_value_short own ds 5 is.digits is.few

digit-at : (ds : List ℕ) (i : ℕ) → list_all is_digit ds ≡ true → i < length ds → IsInRange 48 57 (get_or ds i 0)
digit-at [] i all inside = absurd (omega arith)
digit-at (b ∷ ds) zero all inside =
    let both = and_parts (nat_le 48 b) (nat_le b 57) (and_parts (is_digit b) (list_all is_digit ds) all).0 in
    (leb-true 48 b both.0, leb-true b 57 both.1)
digit-at (b ∷ ds) (suc i) all inside = digit-at ds i (and_parts (is_digit b) (list_all is_digit ds) all).1 (omega arith)

-- the number after one digit more, which is read among the bytes
pub record ReadsOn (ds bytes : List ℕ) (i n : ℕ) : Type 0 where
  pub value : n * 10 + (get_or bytes i 0 - 48) ≡ digits_value 10 (take (i + 1) ds)
  pub small : n * 10 + (get_or bytes i 0 - 48) < 10 ^ 5

-- one digit more is read among the bytes, and the number stays small
pub reads-on : (ds bytes : List ℕ) (i n : ℕ) → are_digits ds ≡ true → bytes ≡ ds → i < length bytes → n ≡ digits_value 10 (take i ds) → ReadsOn ds bytes i n
reads-on ds bytes i n are same inside so_far =
    let within : i < length ds = subst (λ (xs : List ℕ). i < length xs) same inside in
    let value : n * 10 + (get_or ds i 0 - 48) ≡ digits_value 10 (take (i + 1) ds) =
    omega (arith, so_far, digits_value_more 10 ds i within, digit_value_digit (get_or ds i 0) (digit-at ds i (digits-parts ds are).digits within)) in
    subst (λ (xs : List ℕ). ReadsOn ds xs i n) (sym same) (record { value = value; small = omega (arith, value, digits_value-take-le 10 ds (i + 1) (omega arith), small-number ds are) })

-- the number after the last digit
pub read-all : (ds bytes : List ℕ) (i n : ℕ) → bytes ≡ ds → length bytes ≤ i → n ≡ digits_value 10 (take i ds) → n ≡ digits_value 10 ds
read-all ds bytes i n same all so_far = so_far ∙ ap (digits_value 10) (take_all i ds (subst (λ (xs : List ℕ). length xs ≤ i) same all))
