-- Labels and their digits, there and back.
use Rattle.std.proofs.Common.{◌≡◌, ℕ, ◌+◌, ◌-◌, ◌<◌, ◌≤◌, List, [], ◌∷◌, map, length, get_or, refl, sym, ap₂, ◌∙◌, arith}
use Rattle.std.proofs.lemmas.List.{get_or_default, same_lists}
use Rattle.std.proofs.lemmas.List.Elements.{recursion_from_All, All-from_recursion}
use Rattle.std.specs.List.{All, AllByRecursion}
use Rattle.invariants.specs.Labels.{IsDigit, IsLabel, digit_of, number_of}

digits-back : (bytes : List ℕ) → AllByRecursion IsDigit bytes → bytes ≡ map digit_of (map number_of bytes)
digits-back [] all = refl
digits-back (x ∷ xs) all =
    let low : 48 ≤ x = all.0.0 in
    let same : x ≡ 48 + (x - 48) = omega arith in
    ap₂ (λ (y : ℕ) (ys : List ℕ). y ∷ ys) same (digits-back xs all.1)

-- the digits of the numbers of digits
pub digits_back : (bytes : List ℕ) → All IsDigit bytes → bytes ≡ map digit_of (map number_of bytes)
digits_back bytes all = digits-back bytes (recursion_from_All IsDigit bytes all)

small : (bytes : List ℕ) → AllByRecursion IsDigit bytes → AllByRecursion IsLabel (map number_of bytes)
small [] all = tt
small (x ∷ xs) all =
    let high : x ≤ 55 = all.0.1 in
    let low : x - 48 ≤ 7 = omega arith in
    (low, small xs all.1)

-- the numbers of digits are labels
pub numbers_are_labels : (bytes : List ℕ) → All IsDigit bytes → All IsLabel (map number_of bytes)
numbers_are_labels bytes all = All-from_recursion IsLabel (map number_of bytes) (small bytes (recursion_from_All IsDigit bytes all))

digits : (numbers : List ℕ) → AllByRecursion IsLabel numbers → AllByRecursion IsDigit (map digit_of numbers)
digits [] all = tt
digits (x ∷ xs) all =
    let high : x ≤ 7 = all.0 in
    ((omega arith, omega arith), digits xs all.1)

-- the digits of labels are digits
pub digits_are_digits : (numbers : List ℕ) → All IsLabel numbers → All IsDigit (map digit_of numbers)
digits_are_digits numbers all = All-from_recursion IsDigit (map digit_of numbers) (digits numbers (recursion_from_All IsLabel numbers all))

-- the numbers of the digits of numbers
pub numbers_back : (numbers : List ℕ) → map number_of (map digit_of numbers) ≡ numbers
numbers_back [] = refl
numbers_back (x ∷ xs) =
    let same : (48 + x) - 48 ≡ x = omega arith in
    ap₂ (λ (y : ℕ) (ys : List ℕ). y ∷ ys) same (numbers_back xs)

-- a list of which the numbers before a place were made anew
pub record IsPartly (old now made : List ℕ) (k : ℕ) : Type 0 where
  pub size : length now ≡ length old
  pub before : (j : ℕ) → j < k → get_or now j 0 ≡ get_or made j 0
  pub after : (j : ℕ) → k ≤ j → get_or now j 0 ≡ get_or old j 0

pub partly-first : (old made : List ℕ) → IsPartly old old made 0
partly-first old made = record { size = refl; before = λ j l. absurd (omega arith); after = λ j l. refl }

pub partly-all : (old now made : List ℕ) (k : ℕ) → length made ≡ length old → length old ≤ k → IsPartly old now made k → now ≡ made
partly-all old now made k e l p =
    let size : length now ≡ length old = p.size in
    same_lists now made (p.size ∙ sym e) (λ j d m. get_or_default now j d 0 m ∙ p.before j (omega arith) ∙ get_or_default made j 0 d (omega arith))
