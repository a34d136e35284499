-- Text is bytes.
use Rattle.std.proofs.Common.{◌≡◌, ℕ, zero, suc, ◌+◌, ◌<◌, ◌≤◌, Bool, true, false, cond, ltb, ◌/◌, List, [], ◌∷◌, ◌++◌, length, take, drop, length-drop, get_or, refl, sym, subst, arith, ⊎_elim, IsUtf8, encode_utf8_all}
use Rattle.std.proofs.lemmas.Bool.{and_parts}
use Rattle.std.proofs.lemmas.Bool.Decides.{nat_tests}
use Rattle.std.proofs.lemmas.Str.{utf8_lossy-IsUtf8, utf8_lossy_step}
use Rattle.std.specs.List.{AllByRecursion}
use Rattle.std.specs.Str.Lossy.{utf8_valid_len, utf8_invalid_len, after_first_chunk, replacement_bytes, utf8_lossy}
use Rattle.std.proofs.Math.Utf8.{scalar, scalars, next, encode, scalar_cases}
use Rattle.bstr.proofs.lemmas.LossyLemmas.{utf8_valid_len-cases, utf8_invalid_len-decoded}
use Rattle.bstr.proofs.lemmas.PieceLemmas.{piece-bounds}
use Rattle.bstr.proofs.lemmas.UnicodeLemmas.{none_after_valid}

-- each item is a byte
abbrev AreBytes : List ℕ → Type 0
AreBytes xs = AllByRecursion (λ b. b < 256) xs

bytes-append : (xs ys : List ℕ) → AreBytes xs → AreBytes ys → AreBytes (xs ++ ys)
bytes-append [] ys p q = q
bytes-append (x ∷ xs) ys p q = (p.0, bytes-append xs ys p.1 q)

by-test : (b : Bool) (xs ys : List ℕ) → (b ≡ true → AreBytes xs) → (b ≡ false → AreBytes ys) → AreBytes (cond b xs ys)
by-test true xs ys p q = p refl
by-test false xs ys p q = q refl

bytes-encode : (c : ℕ) → scalar c ≡ true → AreBytes (encode c)
unfolding encode
bytes-encode c is =
    let small : c < 1114112 = ⊎_elim (λ h. omega arith) (λ h. omega arith) (scalar_cases c is) in
    let one : List ℕ = c ∷ [] in
    let two : List ℕ = (192 + c / 64) ∷ next c ∷ [] in
    let three : List ℕ = (224 + c / 4096) ∷ next (c / 64) ∷ next c ∷ [] in
    let four : List ℕ = (240 + c / 262144) ∷ next (c / 4096) ∷ next (c / 64) ∷ next c ∷ [] in
    let is_four : AreBytes four = (omega arith, (omega arith, (omega arith, (omega arith, tt)))) in
    by-test (ltb c 128) one (cond (ltb c 2048) two (cond (ltb c 65536) three four))
    (λ t. let h : AreBytes one = (grind (arith, nat_tests), tt) in h)
    (λ f. by-test (ltb c 2048) two (cond (ltb c 65536) three four)
    (λ t. let h : AreBytes two = (grind (arith, nat_tests), (omega arith, tt)) in h)
    (λ f. by-test (ltb c 65536) three four
    (λ t. let h : AreBytes three = (grind (arith, nat_tests), (omega arith, (omega arith, tt))) in h)
    (λ f. is_four)))

bytes-characters : (cs : List ℕ) → scalars cs ≡ true → AreBytes (encode_utf8_all cs)
bytes-characters [] all = tt
bytes-characters (c ∷ cs) all =
    let parts = and_parts (scalar c) (scalars cs) all in
    bytes-append (encode c) (encode_utf8_all cs) (bytes-encode c parts.0) (bytes-characters cs parts.1)

bytes-text : (bs : List ℕ) → IsUtf8 bs → AreBytes bs
bytes-text bs text = subst AreBytes text.1.1 (bytes-characters text.0 text.1.0)

bytes-lossy_within : (fuel : ℕ) (bs : List ℕ) → length bs ≤ fuel → AreBytes (utf8_lossy bs)
bytes-lossy_within zero bs le = ⊎_elim
    (λ text. subst AreBytes (sym (utf8_lossy-IsUtf8 bs text)) (bytes-text bs text))
    (λ valid. absurd (omega (arith, valid.short)))
    (utf8_valid_len-cases bs)
bytes-lossy_within (suc fuel) bs le = ⊎_elim
    (λ text. subst AreBytes (sym (utf8_lossy-IsUtf8 bs text)) (bytes-text bs text))
    (λ valid.
    let n = utf8_valid_len bs in
    let short : n < length bs = valid.short in
    let rest = drop n bs in
    let some : 0 < length rest = omega (arith, length-drop n bs) in
    let shorter : length (after_first_chunk bs) ≤ fuel =
    omega (arith, length-drop (n + utf8_invalid_len rest) bs, utf8_invalid_len-decoded rest (none_after_valid bs n valid), (piece-bounds rest some).0) in
    let faulty : ¬ (utf8_valid_len bs ≡ length bs) = λ whole. omega arith in
    subst AreBytes (sym (utf8_lossy_step bs faulty))
    (bytes-append (take (utf8_valid_len bs) bs) (replacement_bytes ++ utf8_lossy (after_first_chunk bs)) (bytes-text _ valid.front)
    (bytes-append replacement_bytes (utf8_lossy (after_first_chunk bs)) (omega arith, (omega arith, (omega arith, tt)))
    (bytes-lossy_within fuel (after_first_chunk bs) shorter))))
    (utf8_valid_len-cases bs)

bytes-at : (xs : List ℕ) → AreBytes xs → (k : ℕ) → get_or xs k 0 < 256
bytes-at [] all k = omega arith
bytes-at (x ∷ xs) all zero = all.0
bytes-at (x ∷ xs) all (suc k) = bytes-at xs all.1 k

-- the text of some bytes is bytes
pub bytes-lossy : (bs : List ℕ) (k : ℕ) → get_or (utf8_lossy bs) k 0 < 256
bytes-lossy bs = bytes-at (utf8_lossy bs) (bytes-lossy_within (length bs) bs (omega arith))
