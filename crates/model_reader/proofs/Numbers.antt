-- The digits of a number, one after another.
use Rattle.std.proofs.Common.{◌≡◌, ℕ, ◌+◌, ◌*◌, ◌/◌, ◌%◌, ◌^◌, ◌<◌, ◌++◌, List, [], ◌∷◌, ap, ◌∙◌, arith, append_assoc}
use Rattle.std.proofs.lemmas.Fmt.{decimal_digit, decimal_step}
use Rattle.std.specs.Fmt.{decimal}

-- a further digit stands at the end of a number
pub decimal_more : (n d : ℕ) → 0 < n → d < 10 → n * 10 + d < 2 ^ 64 → decimal (n * 10 + d) ≡ decimal n ++ (48 + d) ∷ []
decimal_more n d p l small =
    let step = decimal_step (n * 10 + d) (omega arith) small in
    let top : (n * 10 + d) / 10 ≡ n = omega arith in
    let low : (n * 10 + d) % 10 ≡ d = omega arith in
    rw (top, low) at step

-- a digit at the front is a number
pub begun : (whole rest : List ℕ) (d : ℕ) → d < 10 → whole ≡ (48 + d) ∷ rest → whole ≡ decimal d ++ rest
begun whole rest d l e = rw (decimal_digit d l) e

-- a number at the front goes on with a digit
pub continued : (whole old new : List ℕ) (n d : ℕ) → 0 < n → d < 10 → n * 10 + d < 2 ^ 64 → whole ≡ decimal n ++ old → old ≡ (48 + d) ∷ new → whole ≡ decimal (n * 10 + d) ++ new
continued whole old new n d p l small e next = rw (decimal_more n d p l small, append_assoc (decimal n) ((48 + d) ∷ []) new) (e ∙ ap (λ xs. decimal n ++ xs) next)
