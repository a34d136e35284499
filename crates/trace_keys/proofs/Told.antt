-- Short texts are told whole by their words.
use Rattle.std.proofs.Common.{◌≡◌, ℕ, suc, ◌+◌, ◌-◌, ◌<◌, ◌≤◌, false, List, [], ◌∷◌, ◌++◌, length, take, drop, Bool, ◌&&◌, ◌==◌, refl, sym, ap, ◌∙◌, ⊎_elim, arith, length-drop}
use Rattle.std.proofs.lemmas.Bool.{cases_lt, cond-true, cond-false, lt-ltb, le-ltb, false_from_ne_true}
use Rattle.std.proofs.lemmas.Bool.Decides.{same_from_decides, Decides-eqb, Decides-like, Decides-and}
use Rattle.std.proofs.lemmas.List.{take-append-drop, take-take, take_all, length-take}
use Rattle.std.proofs.lemmas.Nat.{le_bytes_8}
use Rattle.std.proofs.lemmas.Slice.Eq.{bytes_eq-Decides}
use Rattle.std.specs.Bool.{Decides}
use Rattle.std.specs.Int.{w64, from_le_bytes}
use Rattle.std.specs.Str.{bytes_eq}
use Rattle.trace_keys.specs.Keys.{Key, same_key}
use Rattle.trace_keys.specs.Fingerprints.{number_of, low_of, high_of, fingerprint_of}
use Rattle.trace_keys.specs.declared.fingerprint.Fingerprint.{Fingerprint}
use Rattle.trace_keys.proofs.KeyLists.{part-bytes}
use Rattle.trace_keys.proofs.Numbers.{AreBytes}

-- a text by its front and its end, where these meet
covered : (t u : List ℕ) (m k : ℕ) → m ≤ k → take k t ≡ take k u → drop m t ≡ drop m u → t ≡ u
covered t u m k meet front end =
    sym (take-append-drop m t)
    ∙ (ap (λ (xs : List ℕ). xs ++ drop m t) (sym (take-take m k t meet) ∙ (ap (take m) front ∙ take-take m k u meet))
    ∙ (ap (λ (xs : List ℕ). take m u ++ xs) end ∙ take-append-drop m u))

-- eight bytes by their number
same-word : (xs ys : List ℕ) → length xs ≡ 8 → length ys ≡ 8 → AreBytes xs → AreBytes ys → from_le_bytes w64 xs ≡ from_le_bytes w64 ys → xs ≡ ys
same-word xs ys long_x long_y bytes_x bytes_y same =
    sym (le_bytes_8 xs (from_le_bytes w64 xs) long_x bytes_x refl) ∙ le_bytes_8 ys (from_le_bytes w64 xs) long_y bytes_y same

-- what the words are

low-word : (t : List ℕ) → length t ≤ 16 → 8 ≤ length t → low_of t ≡ from_le_bytes w64 (take 8 (drop 0 t))
unfolding low_of
low-word t short long = cond-false _ _ _ (le-ltb 16 (length t) short) ∙ cond-true _ _ _ (lt-ltb 7 (length t) (omega (arith, long)))

-- a text that is shorter than a word
pub low-few : (t : List ℕ) → length t < 8 → low_of t ≡ number_of t
unfolding low_of
low-few t short =
    cond-false _ _ _ (le-ltb 16 (length t) (omega (arith, short))) ∙ cond-false _ _ _ (le-ltb 7 (length t) (omega (arith, short)))

high-word : (t : List ℕ) → 8 ≤ length t → high_of t ≡ from_le_bytes w64 (take 8 (drop (length t - 8) t))
unfolding high_of
high-word t long = cond-true _ _ _ (lt-ltb 7 (length t) (omega (arith, long)))

-- a text that is shorter than a word has no last word
pub high-few : (t : List ℕ) → length t < 8 → high_of t ≡ 0
unfolding high_of
high-few t short = cond-false _ _ _ (le-ltb 7 (length t) (omega (arith, short)))

-- how long a part is
part-long : (t : List ℕ) (from n : ℕ) → from + n ≤ length t → length (take n (drop from t)) ≡ n
part-long t from n inside = omega (arith, length-take n (drop from t), length-drop from t)

-- the end is what is left
part-end : (t : List ℕ) (n : ℕ) → n ≤ length t → take n (drop (length t - n) t) ≡ drop (length t - n) t
part-end t n inside = take_all n (drop (length t - n) t) (omega (arith, length-drop (length t - n) t))

told-words : (t u : List ℕ) → AreBytes t → AreBytes u → length t ≡ length u → length t ≤ 16 → 8 ≤ length t → low_of t ≡ low_of u → high_of t ≡ high_of u → t ≡ u
told-words t u bytes_t bytes_u same short long low high =
    let long_u : 8 ≤ length u = omega (arith, same, long) in
    let short_u : length u ≤ 16 = omega (arith, same, short) in
    let front : take 8 (drop 0 t) ≡ take 8 (drop 0 u) =
    same-word (take 8 (drop 0 t)) (take 8 (drop 0 u)) (part-long t 0 8 (omega (arith, long))) (part-long u 0 8 (omega (arith, long_u)))
    (part-bytes t 0 8 bytes_t) (part-bytes u 0 8 bytes_u) (sym (low-word t short long) ∙ (low ∙ low-word u short_u long_u)) in
    let end : take 8 (drop (length t - 8) t) ≡ take 8 (drop (length u - 8) u) =
    same-word (take 8 (drop (length t - 8) t)) (take 8 (drop (length u - 8) u)) (part-long t (length t - 8) 8 (omega (arith, long))) (part-long u (length u - 8) 8 (omega (arith, long_u)))
    (part-bytes t (length t - 8) 8 bytes_t) (part-bytes u (length u - 8) 8 bytes_u) (sym (high-word t long) ∙ (high ∙ high-word u long_u)) in
    covered t u (length t - 8) 8 (omega (arith, short)) front
    (sym (part-end t 8 long) ∙ (end ∙ (part-end u 8 long_u ∙ ap (λ n. drop (n - 8) u) (sym same))))

-- fewer bytes by their number
told-few : (t u : List ℕ) → AreBytes t → AreBytes u → length t ≡ length u → number_of t ≡ number_of u → t ≡ u
told-few [] [] bytes_t bytes_u same number = refl
told-few [] (c ∷ u) bytes_t bytes_u same number = absurd (omega (arith, same))
told-few (b ∷ t) [] bytes_t bytes_u same number = absurd (omega (arith, same))
told-few (b ∷ t) (c ∷ u) bytes_t bytes_u same number =
    let first : b ≡ c = omega (arith, number, bytes_t 0, bytes_u 0) in
    let others : number_of t ≡ number_of u = omega (arith, number, first) in
    ap (λ x. x ∷ t) first ∙ ap (λ (xs : List ℕ). c ∷ xs) (told-few t u (λ i. bytes_t (suc i)) (λ i. bytes_u (suc i)) (omega (arith, same)) others)

-- short texts of one length with the same words are equal
pub told : (t u : List ℕ) → AreBytes t → AreBytes u → length t ≡ length u → length t ≤ 16 → low_of t ≡ low_of u → high_of t ≡ high_of u → t ≡ u
told t u bytes_t bytes_u same short low high = ⊎_elim
    (λ (few : length t < 8). told-few t u bytes_t bytes_u same (sym (low-few t few) ∙ (low ∙ low-few u (omega (arith, same, few)))))
    (λ (word : 8 ≤ length t). told-words t u bytes_t bytes_u same short word low high)
    (cases_lt (length t) 8)

-- keys by their fingerprints

-- keys with one fingerprint and one text are equal
pub same-key : (k l : Key) → fingerprint_of k ≡ fingerprint_of l → k.text ≡ l.text → k ≡ l
same-key k l fingerprints texts =
    let K : ℕ → ℕ → List ℕ → Key = λ f s t. record { file = f; section = s; text = t } in
    ap (λ f. K f k.section k.text) (ap (λ (s : Fingerprint). s.file) fingerprints)
    ∙ (ap (λ s. K l.file s k.text) (ap (λ (s : Fingerprint). s.section) fingerprints) ∙ ap (λ t. K l.file l.section t) texts)

-- so are keys with one fingerprint whose texts are short
pub same-told : (k l : Key) → AreBytes k.text → AreBytes l.text → length k.text ≤ 16 → fingerprint_of k ≡ fingerprint_of l → k ≡ l
same-told k l bytes_k bytes_l short fingerprints =
    same-key k l fingerprints
    (told k.text l.text bytes_k bytes_l (ap (λ (s : Fingerprint). s.length) fingerprints) short (ap (λ (s : Fingerprint). s.low) fingerprints) (ap (λ (s : Fingerprint). s.high) fingerprints))

-- the test of keys tells whether they are equal
pub tells-same : (k l : Key) → Decides (same_key k l) (k ≡ l)
tells-same k l = Decides-like (same_key k l)
    (λ (parts : ((k.file ≡ l.file) × (k.section ≡ l.section)) × (k.text ≡ l.text)).
    let K : ℕ → ℕ → List ℕ → Key = λ f s t. record { file = f; section = s; text = t } in
    ap (λ f. K f k.section k.text) parts.0.0 ∙ (ap (λ s. K l.file s k.text) parts.0.1 ∙ ap (λ t. K l.file l.section t) parts.1))
    (λ (same : k ≡ l). ((ap (λ (x : Key). x.file) same, ap (λ (x : Key). x.section) same), ap (λ (x : Key). x.text) same))
    (Decides-and (k.file == l.file && k.section == l.section) (bytes_eq k.text l.text)
    (Decides-and (k.file == l.file) (k.section == l.section) (Decides-eqb k.file l.file) (Decides-eqb k.section l.section)) (bytes_eq-Decides k.text l.text))

-- keys with one fingerprint are told apart by their texts
pub tells-texts : (k l : Key) (r : Bool) → fingerprint_of k ≡ fingerprint_of l → Decides r (l.text ≡ k.text) → r ≡ same_key k l
tells-texts k l r fingerprints decides =
    same_from_decides {P = k ≡ l} r (same_key k l)
    (Decides-like r (λ (same : l.text ≡ k.text). same-key k l fingerprints (sym same)) (λ (same : k ≡ l). sym (ap (λ (x : Key). x.text) same)) decides)
    (tells-same k l)

-- keys with different fingerprints differ
pub tells-fingerprints : (k l : Key) → (fingerprint_of k ≡ fingerprint_of l → ⊥) → same_key k l ≡ false
tells-fingerprints k l differ = false_from_ne_true (same_key k l) (λ same. differ (ap fingerprint_of ((tells-same k l).0 same)))
