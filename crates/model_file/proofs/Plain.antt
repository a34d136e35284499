-- Numbers that are plain digits.
use Rattle.std.proofs.Common.{◌≡◌, ℕ, ◌+◌, ◌-◌, ◌*◌, ◌^◌, ◌<◌, ◌&&◌, Bool, true, false, List, [], ◌∷◌, ◌++◌, length, get_or, nat_le, Some, None, if◌then◌else◌, refl, sym, ap, ◌∙◌, arith, append-nil, lt-ltb, ne_eqb}
use Rattle.std.specs.Char.{digit_value}
use Rattle.std.specs.Str.Parse.{AllDigits, digits_value_after}
use Rattle.fast_float.specs.Text.{Parts, text_of, digits_of, IsWellFormed}
use Rattle.fast_float.proofs.Writing.{scan-text_of}
use Rattle.serde_json.specs.Data.{unsigned}
use Rattle.serde_json.specs.Read.{number_of, number_from, is_integer}
use Rattle.model_file.specs.Streams.{digits_after}

-- the digits and their number
abbrev AreRead : ℕ → List ℕ → ℕ → Type 0
AreRead n cs m = AllDigits 10 cs × (digits_value_after 10 n cs ≡ m)

digit-is : (c : ℕ) → (nat_le 48 c && nat_le c 57) ≡ true → (digit_value c < 10) × (digit_value c ≡ c - 48)
digit-is c e = grind arith

by-digit : (n c : ℕ) (cs : List ℕ) (m : ℕ) (b : Bool) → (nat_le 48 c && nat_le c 57) ≡ b → ((k : ℕ) → digits_after k cs ≡ Some m → AreRead k cs m) → (if b then digits_after (n * 10 + (c - 48)) cs else None) ≡ Some m → AreRead n (c ∷ cs) m
by-digit n c cs m true is more e =
    let d = digit-is c is in
    let rest = more (n * 10 + (c - 48)) e in
    ((d.0, rest.0), ap (λ x. digits_value_after 10 (n * 10 + x) cs) d.1 ∙ rest.1)
by-digit n c cs m false is more e = absurd cc

some-is : (n m : ℕ) → Some n ≡ Some m → n ≡ m
some-is n m e = cc

are-read : (n : ℕ) (cs : List ℕ) (m : ℕ) → digits_after n cs ≡ Some m → AreRead n cs m
are-read n [] m e = (tt, some-is n m e)
are-read n (c ∷ cs) m e = by-digit n c cs m (nat_le 48 c && nat_le c 57) refl (λ k h. are-read k cs m h) e

no-minus : (ds : List ℕ) → AllDigits 10 ds → 0 < length ds → get_or (ds ++ []) 0 0 ≡ 45 → ⊥
no-minus [] h some e = omega arith
no-minus (d ∷ ds) h some e = let digit : digit_value d < 10 = h.0 in let is : d ≡ 45 = e in grind arith

abbrev parts : List ℕ → Parts
parts ds = record { whole = ds; point = false; fraction = []; exponent_negative = false; exponent = []; len = length (ds ++ []) }

text-read : (ds : List ℕ) → AllDigits 10 ds → 0 < length ds → number_of (text_of (parts ds)) ≡ number_from false (parts ds)
unfolding number_of
text-read ds h some =
    let formed : IsWellFormed (parts ds) = record { whole_digits = h; fraction_digits = tt; exponent_digits = tt; no_point = λ _. refl; no_exponent = λ _. refl; len_is = refl } in
    rw (ne_eqb (get_or (text_of (parts ds)) 0 0) 45 (no-minus ds h some)) (ap (number_from false) (scan-text_of (parts ds) formed))

-- a text of a few digits is their number
pub plain-number : (s : List ℕ) (n : ℕ) → digits_after 0 s ≡ Some n → 0 < length s → n < 2 ^ 64 → number_of s ≡ Some (unsigned n)
plain-number s n read some small =
    let h = are-read 0 s n read in
    let whole : is_integer (parts s) ≡ true = rw (lt-ltb _ _ some) refl in
    let value : digits_of (parts s) ≡ n = rw append-nil h.1 in
    ap number_of (sym (append-nil s)) ∙ text-read s h.0 some ∙ rw (whole, value) (rw (lt-ltb _ _ small))
