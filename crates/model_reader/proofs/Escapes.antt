-- Bytes that are written without escapes.
use Rattle.std.proofs.Common.{◌≡◌, ℕ, ◌+◌, ◌<◌, ◌≤◌, List, [], ◌∷◌, ◌++◌, take, length, get_or, refl, sym, ap, ap₂, ◌∙◌, arith}
use Rattle.std.proofs.lemmas.Grind.{flat_map-append, take_at_read}
use Rattle.std.proofs.lemmas.List.Elements.{recursion_from_All}
use Rattle.std.specs.List.{All, AllByRecursion}
use Rattle.json.specs.Print.{escape, escape_byte}
use Rattle.json.proofs.Printed.Strings.{escape_byte_plain}
use Rattle.invariants.specs.Labels.{IsDigit}

-- a byte that is no control byte, no quotation mark and no backslash stands for itself
pub itself : (x : ℕ) → 32 ≤ x → (x ≡ 34 → ⊥) → (x ≡ 92 → ⊥) → escape_byte x ≡ x ∷ []
itself x low quote slash = escape_byte_plain x quote slash low

-- such a byte after bytes that stand for themselves
pub escape_more : (xs : List ℕ) (x : ℕ) → 32 ≤ x → (x ≡ 34 → ⊥) → (x ≡ 92 → ⊥) → escape xs ≡ xs → escape (xs ++ x ∷ []) ≡ xs ++ x ∷ []
escape_more xs x low quote slash e = flat_map-append escape_byte xs (x ∷ []) ∙ ap₂ (λ (ys zs : List ℕ). ys ++ (zs ++ [])) e (itself x low quote slash)

-- the same for the bytes before a place
pub escape_step : (xs : List ℕ) (i d : ℕ) → i < length xs → 32 ≤ get_or xs i d → (get_or xs i d ≡ 34 → ⊥) → (get_or xs i d ≡ 92 → ⊥)
    → escape (take i xs) ≡ take i xs → escape (take (i + 1) xs) ≡ take (i + 1) xs
escape_step xs i d l low quote slash e =
    let more = (take_at_read xs i d l).1 in
    ap escape more ∙ (escape_more (take i xs) (get_or xs i d) low quote slash e ∙ sym more)

labels-themselves : (bytes : List ℕ) → AllByRecursion IsDigit bytes → escape bytes ≡ bytes
labels-themselves [] all = refl
labels-themselves (x ∷ xs) all =
    let low : 48 ≤ x = all.0.0 in
    let high : x ≤ 55 = all.0.1 in
    ap₂ (λ (ys zs : List ℕ). ys ++ zs) (itself x (omega arith) (λ e. absurd (omega arith)) (λ e. absurd (omega arith))) (labels-themselves xs all.1)

-- digits of labels stand for themselves
pub labels_themselves : (bytes : List ℕ) → All IsDigit bytes → escape bytes ≡ bytes
labels_themselves bytes all = labels-themselves bytes (recursion_from_All IsDigit bytes all)
