-- What digits say.
use Rattle.std.proofs.Common.{◌≡◌, ◌<◌, ◌≤◌, ◌^◌, ◌+◌, ◌-◌, ◌*◌, ◌⊎◌, ℕ, zero, suc, true, false, List, [], ◌∷◌, length, get_or, take, take_all, drop, Option, Some, None, refl, sym, ap, ap₂, subst, option_map, ◌∙◌, arith, rules, ⊎_elim, ◌&&◌, true≢false}
use Rattle.std.proofs.lemmas.Int.Digits.{digits_value_more}
use Rattle.std.proofs.lemmas.Str.{digit_value_digit}
use Rattle.std.specs.Int.{IsInRange}
use Rattle.std.specs.Prelude.{nat_lt, nat_le}
use Rattle.std.specs.List.{list_any, list_all, position_or_len, before_first, after_first}
use Rattle.std.specs.Str.Parse.{digits_value}
use Rattle.std.proofs.lemmas.Bool.{and_parts, ltb-true, leb-true, cases_Bool, cases_lt, cond-true, cond-false, false_from_ne_true}
use Rattle.std.proofs.lemmas.Nat.{pow-add}
use Rattle.std.proofs.lemmas.Bool.{ne_eqb}
use Rattle.std.proofs.Math.Nat.{mul-lt-mul_of_pos_right}
use Rattle.std.proofs.lemmas.List.{get_or-take, length-take, length-take-le, length-drop}
use Rattle.std.proofs.lemmas.List.Folds.{list_all_more, list_any_at}
use Rattle.std.proofs.lemmas.List.Sums.{position_or_len_is, passes_at_first}
use Rattle.std.proofs.lemmas.Str.Parse.{IsNumeralModel, numerals_by_value, digits_value_short}
use Rattle.line_rules.specs.Times.{is_digit, is_point, are_digits, billionths, fractional_time, time_of, IsHead}

own : IsNumeralModel (λ ds. list_all is_digit ds ≡ true) (digits_value 10)
own = numerals_by_value _ (search rules)

-- 1 to so many digits
pub record AreDigits (most : ℕ) (ds : List ℕ) : Type 0 where
  pub some : 0 < length ds
  pub few : length ds ≤ most
  pub digits : list_all is_digit ds ≡ true

-- the parts of the test
pub digits-parts : (most : ℕ) (ds : List ℕ) → are_digits most ds ≡ true → AreDigits most ds
digits-parts most ds are =
    let one = and_parts (nat_lt 0 (length ds)) (nat_le (length ds) most && list_all is_digit ds) are in
    let two = and_parts (nat_le (length ds) most) (list_all is_digit ds) one.1 in
    record { some = ltb-true 0 (length ds) one.0; few = leb-true (length ds) most two.0; digits = two.1 }

-- and the test from its parts
pub are-digits : (most : ℕ) (ds : List ℕ) → 0 < length ds → length ds ≤ most → list_all is_digit ds ≡ true → are_digits most ds ≡ true
are-digits most ds some few digits = grind (arith, some, few, digits)

-- so few digits write a small number
pub small-number : (most : ℕ) (ds : List ℕ) → length ds ≤ most → list_all is_digit ds ≡ true → digits_value 10 ds < 10 ^ most
small-number most ds few digits = digits_value_short own ds most digits few

-- each digit is one
digit-at : (ds : List ℕ) (i : ℕ) → list_all is_digit ds ≡ true → i < length ds → is_digit (get_or ds i 0) ≡ true
digit-at [] i all inside = absurd (omega arith)
digit-at (b ∷ ds) zero all inside = (and_parts (is_digit b) (list_all is_digit ds) all).0
digit-at (b ∷ ds) (suc i) all inside = digit-at ds i (and_parts (is_digit b) (list_all is_digit ds) all).1 (omega arith)

digit-in-head : (text : List ℕ) (count k : ℕ) → count ≤ length text → list_all is_digit (take count text) ≡ true → k < count → is_digit (get_or text k 0) ≡ true
digit-in-head text count k within digits inside =
    ap is_digit (sym (get_or-take count text k 0 inside)) ∙ digit-at (take count text) k digits (omega (arith, length-take-le count text within))

-- a digit is no point
no-point : (b : ℕ) → is_digit b ≡ true → is_point b ≡ false
no-point b is = grind (arith, is)

-- what is in the range of digits is one
in-range-digit : (b : ℕ) → IsInRange 48 57 b → is_digit b ≡ true
in-range-digit b range = grind (arith, range.0, range.1)

-- the number after one digit more
pub record ReadsOn (text : List ℕ) (i n b : ℕ) : Type 0 where
  pub value : n * 10 + (b - 48) ≡ digits_value 10 (take (i + 1) text)
  pub digits : list_all is_digit (take (i + 1) text) ≡ true
  pub small : n * 10 + (b - 48) < 10 ^ 18

pub reads-on : (text : List ℕ) (i n : ℕ) → i < length text → i < 18 → n ≡ digits_value 10 (take i text) → list_all is_digit (take i text) ≡ true
    → IsInRange 48 57 (get_or text i 0) → ReadsOn text i n (get_or text i 0)
reads-on text i n inside few value digits range =
    let more : list_all is_digit (take (i + 1) text) ≡ true = list_all_more is_digit text i 0 inside ∙ ap₂ (λ p q. p && q) digits (in-range-digit (get_or text i 0) range) in
    let next : n * 10 + (get_or text i 0 - 48) ≡ digits_value 10 (take (i + 1) text) =
    omega (arith, value, digits_value_more 10 text i inside, digit_value_digit (get_or text i 0) range) in
    let count : length (take (i + 1) text) ≡ i + 1 = length-take-le (i + 1) text (omega arith) in
    record { value = next; digits = more; small = subst (λ k. k < 10 ^ 18) (sym next) (small-number 18 (take (i + 1) text) (omega (arith, count)) more) }

-- where the first bytes are known to be digits, each of them is one digit more
pub reads-known : (text : List ℕ) (count i n : ℕ) → count ≤ length text → count ≤ 18 → list_all is_digit (take count text) ≡ true → i < count
    → n ≡ digits_value 10 (take i text) → list_all is_digit (take i text) ≡ true → ReadsOn text i n (get_or text i 0)
reads-known text count i n inside few all less value digits =
    let parts = and_parts (nat_le 48 (get_or text i 0)) (nat_le (get_or text i 0) 57) (digit-in-head text count i inside all less) in
    reads-on text i n (omega (arith, inside, less)) (omega (arith, few, less)) value digits (leb-true 48 (get_or text i 0) parts.0, leb-true (get_or text i 0) 57 parts.1)

-- a head of so few digits is a small number
pub head-small : (most : ℕ) (text : List ℕ) (n count k : ℕ) → IsHead most text n count → count ≤ k → n < 10 ^ k
head-small most text n count k head few = subst (λ m. m < 10 ^ k) (sym head.value) (small-number k (take count text) (omega (arith, few, length-take-le count text head.within)) head.digits)

-- where the text is a whole number, that is its time
pub all-digits : (text : List ℕ) (n count : ℕ) → IsHead 18 text n count → 0 < count → count ≡ length text → Some (n * 10 ^ 9) ≡ time_of text
all-digits text n count head some all =
    let whole : take count text ≡ text = take_all count text (omega (arith, all)) in
    let digits : list_all is_digit text ≡ true = ap (list_all is_digit) (sym whole) ∙ head.digits in
    let none : list_any is_point text ≡ false = no-point-in text digits in
    let value : n ≡ digits_value 10 text = head.value ∙ ap (digits_value 10) whole in
    ap (λ k. Some (k * 10 ^ 9)) value ∙ (sym (cond-true _ _ _ (are-digits 18 text (omega (arith, all, some)) (omega (arith, all, head.few)) digits)) ∙ sym (cond-false _ _ _ none))
  where
    no-point-in : (ds : List ℕ) → list_all is_digit ds ≡ true → list_any is_point ds ≡ false
    no-point-in [] all = refl
    no-point-in (b ∷ ds) all =
        let parts = and_parts (is_digit b) (list_all is_digit ds) all in
        let rest = no-point-in ds parts.1 in
        let here = no-point b parts.0 in
        grind (arith, here, rest)

-- so it is where a point follows the digits
pub record Parted (text : List ℕ) (count : ℕ) : Type 0 where
  pub some : list_any is_point text ≡ true
  pub before : before_first is_point text ≡ take count text
  pub after : after_first is_point text ≡ drop (count + 1) text

parted : (text : List ℕ) (count : ℕ) → count < length text → list_all is_digit (take count text) ≡ true → is_point (get_or text count 0) ≡ true → Parted text count
parted text count inside digits point =
    let place : position_or_len is_point text ≡ count =
    position_or_len_is is_point text count 0 (omega arith) (λ k less. no-point (get_or text k 0) (digit-in-head text count k (omega arith) digits less)) (λ _. point) in
    record { some = list_any_at is_point text count 0 inside point; before = ap (λ p. take p text) place; after = ap (λ p. drop (p + 1) text) place }

-- the time of a text with a point after its first digits
pub with-point : (text : List ℕ) (n count : ℕ) (found : Option ℕ) → IsHead 18 text n count → 0 < count → count < length text → is_point (get_or text count 0) ≡ true
    → found ≡ billionths (drop (count + 1) text) → option_map (λ f. n * 10 ^ 9 + f) found ≡ time_of text
with-point text n count found head some inside point is =
    let parts = parted text count inside head.digits point in
    let digits : are_digits 18 (take count text) ≡ true = are-digits 18 (take count text) (omega (arith, some, length-take-le count text head.within)) (omega (arith, head.few, length-take-le count text head.within)) head.digits in
    of-fraction (take count text) (drop (count + 1) text) digits head.value is
    ∙ (sym (ap₂ fractional_time parts.before parts.after) ∙ sym (cond-true _ _ _ parts.some))
  where
    of-fraction : (ds fr : List ℕ) → are_digits 18 ds ≡ true → n ≡ digits_value 10 ds → found ≡ billionths fr → option_map (λ f. n * 10 ^ 9 + f) found ≡ fractional_time ds fr
    of-fraction ds fr whole value told = ⊎_elim
        (λ are. ap (option_map (λ f. n * 10 ^ 9 + f)) (told ∙ cond-true _ _ _ are)
        ∙ (ap (λ k. Some (k * 10 ^ 9 + digits_value 10 fr * 10 ^ (9 - length fr))) value ∙ sym (cond-true _ _ _ (ap₂ (λ a b. a && b) whole are))))
        (λ not. ap (option_map (λ f. n * 10 ^ 9 + f)) (told ∙ cond-false _ _ _ not) ∙ sym (cond-false _ _ _ (ap₂ (λ a b. a && b) whole not)))
        (cases_Bool (are_digits 9 fr))

-- a text whose first digits neither end it nor stand before a point has no time
pub no-time : (text : List ℕ) (n count : ℕ) → IsHead 18 text n count → count < length text → is_point (get_or text count 0) ≡ false → None ≡ time_of text
no-time text n count head inside other = sym (⊎_elim
    (λ some. cond-true _ _ _ some ∙ cond-false _ _ _ (ap (λ b. b && are_digits 9 (after_first is_point text)) (bad (before_first is_point text) (omega (arith, past, length-take place text)) (get_or-take place text count 0 past))))
    (λ none. cond-false _ _ _ none ∙ cond-false _ _ _ (bad text inside refl))
    (cases_Bool (list_any is_point text)))
  where
    place : ℕ
    place = position_or_len is_point text

    bad : (w : List ℕ) → count < length w → get_or w count 0 ≡ get_or text count 0 → are_digits 18 w ≡ false
    bad w longer same = false_from_ne_true (are_digits 18 w) (λ are.
        let parts = digits-parts 18 w are in
        true≢false (sym (digit-at w count parts.digits longer) ∙ (ap is_digit same ∙ head.ends (omega (arith, longer, parts.few)) inside)))

    at-place : place ≤ count → ⊥
    at-place low = ⊎_elim
        (λ less. true≢false (sym (passes_at_first is_point text 0 (omega (arith, low, inside))) ∙ no-point (get_or text place 0) (digit-in-head text count place head.within head.digits less)))
        (λ more. let same : place ≡ count = omega (arith, low, more) in
        true≢false (sym (passes_at_first is_point text 0 (omega (arith, low, inside))) ∙ (ap (λ k. is_point (get_or text k 0)) same ∙ other)))
        (cases_lt place count)

    past : count < place
    past = ⊎_elim (λ less. less) (λ more. absurd (at-place more)) (cases_lt count place)

-- nor has one without a digit at its head
pub no-head : (text : List ℕ) (n count : ℕ) → IsHead 18 text n count → count ≡ 0 → None ≡ time_of text
no-head text n (suc count) head none = absurd (omega (arith, none))
no-head [] n zero head none = refl
no-head (b ∷ text) n zero head none = ⊎_elim
    (λ point. let parts = parted (b ∷ text) 0 (omega arith) refl point in
    sym (cond-true _ _ _ parts.some ∙ ap (λ w. fractional_time w (after_first is_point (b ∷ text))) parts.before))
    (λ other. no-time (b ∷ text) n 0 head (omega arith) other)
    (cases_Bool (is_point b))

-- the billionths of a fraction that its first digits end
pub all-of-fraction : (text : List ℕ) (n count unit : ℕ) → IsHead 9 text n count → 0 < count → count ≡ length text → unit ≡ 10 ^ (9 - count) → Some (n * unit) ≡ billionths text
all-of-fraction text n count unit head some all is =
    let whole : take count text ≡ text = take_all count text (omega (arith, all)) in
    let digits : list_all is_digit text ≡ true = ap (list_all is_digit) (sym whole) ∙ head.digits in
    let value : n ≡ digits_value 10 text = head.value ∙ ap (digits_value 10) whole in
    ap₂ (λ a b. Some (a * b)) value (is ∙ ap (λ k. 10 ^ (9 - k)) all) ∙ sym (cond-true _ _ _ (are-digits 9 text (omega (arith, all, some)) (omega (arith, all, head.few)) digits))

-- a fraction that is empty or has more than its first digits is none
pub no-fraction : (text : List ℕ) (n count : ℕ) → IsHead 9 text n count → (count ≡ 0) ⊎ (count < length text) → None ≡ billionths text
no-fraction text n count head less = sym (cond-false _ _ _ (false_from_ne_true (are_digits 9 text) (λ are.
    let parts = digits-parts 9 text are in
    let longer : count < length text = ⊎_elim (λ zero. omega (arith, zero, parts.some)) (λ l. l) less in
    true≢false (sym (digit-at text count parts.digits longer) ∙ head.ends (omega (arith, longer, parts.few)) longer))))

-- a fraction of so many digits is below one
pub fraction-small : (text : List ℕ) (n count unit : ℕ) → IsHead 9 text n count → unit ≡ 10 ^ (9 - count) → n * unit < 10 ^ 9
fraction-small text n count unit head is =
    let less : n * 10 ^ (9 - count) < 10 ^ count * 10 ^ (9 - count) = mul-lt-mul_of_pos_right (head-small 9 text n count count head (omega arith)) (power-stands (9 - count)) in
    let all : count + (9 - count) ≡ 9 = omega (arith, head.few) in
    subst (λ u. n * u < 10 ^ 9) (sym is) (subst (λ p. n * 10 ^ (9 - count) < p) (sym (pow-add 10 count (9 - count)) ∙ ap (λ k. 10 ^ k) all) less)
  where
    power-stands : (k : ℕ) → 0 < 10 ^ k
    power-stands zero = omega arith
    power-stands (suc k) = let rest = power-stands k in omega (arith, rest)

-- the rest of a text as a slice of it
pub rest-of-text : (text : List ℕ) (count : ℕ) → take (length text - (count + 1)) (drop (count + 1) text) ≡ drop (count + 1) text
rest-of-text text count = take_all (length text - (count + 1)) (drop (count + 1) text) (omega (arith, length-drop (count + 1) text))

-- whether a byte is a point
pub point-told : (b : ℕ) → b ≡ 46 → is_point b ≡ true
point-told b is = rw is refl

pub other-told : (b : ℕ) → (b ≡ 46 → ⊥) → is_point b ≡ false
other-told b is = ne_eqb b 46 is
