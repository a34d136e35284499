-- What is left of a text, piece by piece.
use Rattle.std.proofs.Common.{◌≡◌, ℕ, ◌-◌, ◌≤◌, List, [], ◌∷◌, ◌++◌, drop, get_or, length, take, refl, sym, ap, ap₂, ◌∙◌, arith, append_assoc}
use Rattle.std.proofs.lemmas.List.{take-append-drop, take_all, take_rest}
use Rattle.model_reader.specs.Tails.{IsTail}

-- the whole text is left
pub all-left : (text : List ℕ) → IsTail text text
all-left text = record { front = []; is = refl }

-- a piece was taken
pub less-left : (text old piece new : List ℕ) → IsTail text old → old ≡ piece ++ new → IsTail text new
less-left text old piece new tail e = record {
  front = tail.front ++ piece;
  is = tail.is ∙ ap (λ xs. tail.front ++ xs) e ∙ sym (append_assoc tail.front piece new);
}

-- the first bytes were taken
pub without-first : (text old : List ℕ) (k : ℕ) → IsTail text old → IsTail text (take (length old - k) (drop k old))
without-first text old k tail =
    less-left text old (take k old) (take (length old - k) (drop k old)) tail
    (sym (ap (λ xs. take k old ++ xs) (take_rest old k) ∙ take-append-drop k old))

-- the first byte, and what is left behind it
pub first-apart : (bytes : List ℕ) (first d : ℕ) → 1 ≤ length bytes → get_or bytes 0 d ≡ first → bytes ≡ first ∷ take (length bytes - 1) (drop 1 bytes)
first-apart [] first d some is = absurd (omega arith)
first-apart (byte ∷ bytes) first d some is = ap₂ (λ (x : ℕ) (xs : List ℕ). x ∷ xs) is (sym (take_all (length (byte ∷ bytes) - 1) bytes (omega arith)))
