-- Bytes as numbers.
use Rattle.std.proofs.Common.{◌≡◌, ℕ, zero, suc, ◌+◌, ◌*◌, ◌%◌, ◌^◌, ◌<◌, ◌≤◌, List, [], ◌∷◌, length, take, drop, get_or, length-drop, arith}
use Rattle.std.proofs.lemmas.List.{get_or-drop}
use Rattle.std.specs.Int.{w64, from_le_bytes}
use Rattle.trace_keys.specs.Fingerprints.{number_of}

-- each is a byte
abbrev pub AreBytes : List ℕ → Type 0
AreBytes xs = (i : ℕ) → get_or xs i 0 < 256

-- up to six bytes
pub six-below : (xs : List ℕ) → AreBytes xs → length xs ≤ 6 → number_of xs < 281474976710656
six-below [] bytes few = omega arith
six-below (a ∷ []) bytes few = omega (arith, bytes 0)
six-below (a ∷ b ∷ []) bytes few = omega (arith, bytes 0, bytes 1)
six-below (a ∷ b ∷ c ∷ []) bytes few = omega (arith, bytes 0, bytes 1, bytes 2)
six-below (a ∷ b ∷ c ∷ d ∷ []) bytes few = omega (arith, bytes 0, bytes 1, bytes 2, bytes 3)
six-below (a ∷ b ∷ c ∷ d ∷ e ∷ []) bytes few = omega (arith, bytes 0, bytes 1, bytes 2, bytes 3, bytes 4)
six-below (a ∷ b ∷ c ∷ d ∷ e ∷ f ∷ []) bytes few = omega (arith, bytes 0, bytes 1, bytes 2, bytes 3, bytes 4, bytes 5)
six-below (a ∷ b ∷ c ∷ d ∷ e ∷ f ∷ g ∷ xs) bytes few = absurd (omega (arith, few))

-- the number from a place on, of fewer than eight bytes, has room for one byte more
pub rest-below : (xs : List ℕ) (i word : ℕ) → AreBytes xs → length xs < 8 → 0 < i → word ≡ number_of (drop i xs) → word < 281474976710656
rest-below xs i word bytes few some is =
    omega (arith, is, six-below (drop i xs) (λ k. omega (arith, get_or-drop i xs k 0, bytes (i + k))) (omega (arith, length-drop i xs)))

-- eight bytes stand at the front
eight : (P : List ℕ → Type 0) → ((a b c d e f g h : ℕ) (xs : List ℕ) → P (a ∷ b ∷ c ∷ d ∷ e ∷ f ∷ g ∷ h ∷ xs)) → (xs : List ℕ) → 8 ≤ length xs → P xs
eight P p [] long = absurd (omega (arith, long))
eight P p (a ∷ []) long = absurd (omega (arith, long))
eight P p (a ∷ b ∷ []) long = absurd (omega (arith, long))
eight P p (a ∷ b ∷ c ∷ []) long = absurd (omega (arith, long))
eight P p (a ∷ b ∷ c ∷ d ∷ []) long = absurd (omega (arith, long))
eight P p (a ∷ b ∷ c ∷ d ∷ e ∷ []) long = absurd (omega (arith, long))
eight P p (a ∷ b ∷ c ∷ d ∷ e ∷ f ∷ []) long = absurd (omega (arith, long))
eight P p (a ∷ b ∷ c ∷ d ∷ e ∷ f ∷ g ∷ []) long = absurd (omega (arith, long))
eight P p (a ∷ b ∷ c ∷ d ∷ e ∷ f ∷ g ∷ h ∷ xs) long = p a b c d e f g h xs

-- of a word, the digits of its first bytes
pub front-eight : (a b c d e f g h : ℕ) (xs : List ℕ) (k : ℕ) → k < 8 → AreBytes (a ∷ b ∷ c ∷ d ∷ e ∷ f ∷ g ∷ h ∷ xs)
    → from_le_bytes w64 (take 8 (drop 0 (a ∷ b ∷ c ∷ d ∷ e ∷ f ∷ g ∷ h ∷ xs))) % (1 * 2 ^ (8 * k) % 18446744073709551616) ≡ number_of (take k (a ∷ b ∷ c ∷ d ∷ e ∷ f ∷ g ∷ h ∷ xs))
front-eight a b c d e f g h xs zero few bytes = omega (arith, bytes 0, bytes 1, bytes 2, bytes 3, bytes 4, bytes 5, bytes 6, bytes 7)
front-eight a b c d e f g h xs (suc zero) few bytes = omega (arith, bytes 0, bytes 1, bytes 2, bytes 3, bytes 4, bytes 5, bytes 6, bytes 7)
front-eight a b c d e f g h xs (suc (suc zero)) few bytes = omega (arith, bytes 0, bytes 1, bytes 2, bytes 3, bytes 4, bytes 5, bytes 6, bytes 7)
front-eight a b c d e f g h xs (suc (suc (suc zero))) few bytes = omega (arith, bytes 0, bytes 1, bytes 2, bytes 3, bytes 4, bytes 5, bytes 6, bytes 7)
front-eight a b c d e f g h xs (suc (suc (suc (suc zero)))) few bytes = omega (arith, bytes 0, bytes 1, bytes 2, bytes 3, bytes 4, bytes 5, bytes 6, bytes 7)
front-eight a b c d e f g h xs (suc (suc (suc (suc (suc zero))))) few bytes = omega (arith, bytes 0, bytes 1, bytes 2, bytes 3, bytes 4, bytes 5, bytes 6, bytes 7)
front-eight a b c d e f g h xs (suc (suc (suc (suc (suc (suc zero)))))) few bytes = omega (arith, bytes 0, bytes 1, bytes 2, bytes 3, bytes 4, bytes 5, bytes 6, bytes 7)
front-eight a b c d e f g h xs (suc (suc (suc (suc (suc (suc (suc zero))))))) few bytes = omega (arith, bytes 0, bytes 1, bytes 2, bytes 3, bytes 4, bytes 5, bytes 6, bytes 7)
front-eight a b c d e f g h xs (suc (suc (suc (suc (suc (suc (suc (suc k)))))))) few bytes = absurd (omega (arith, few))

pub front : (xs : List ℕ) (k : ℕ) → 8 ≤ length xs → k < 8 → AreBytes xs
    → from_le_bytes w64 (take 8 (drop 0 xs)) % (1 * 2 ^ (8 * k) % 18446744073709551616) ≡ number_of (take k xs)
front xs k long = eight (λ (ys : List ℕ). k < 8 → AreBytes ys → from_le_bytes w64 (take 8 (drop 0 ys)) % (1 * 2 ^ (8 * k) % 18446744073709551616) ≡ number_of (take k ys))
    (λ a b c d e f g h ys few bytes. front-eight a b c d e f g h ys k few bytes) xs long
