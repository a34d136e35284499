-- Keys in lists: their fingerprints, and their texts behind one another.
use Rattle.std.proofs.Common.{◌≡◌, ℕ, zero, suc, ◌+◌, ◌-◌, ◌<◌, ◌≤◌, List, [], ◌∷◌, ◌++◌, map, length, take, drop, get_or, slice_get, Some, refl, sym, ap, ◌∙◌, subst, ⊎_elim, arith, length-append, length-drop}
use Rattle.std.proofs.lemmas.Bool.{cases_lt}
use Rattle.std.proofs.lemmas.List.{drop-drop, take_all, take_at, take-append-le, drop-append-le, map-append, length-take, get_or-take, get_or-drop, get_or_past, get_or_append_left, get_or_push, get_or_read}
use Rattle.std.proofs.lemmas.List.Sums.{sum_by-cons, sum_by_push}
use Rattle.std.proofs.lemmas.Option.{same_Some, none-some, slice_get-map, slice_get_read}
use Rattle.std.specs.Option.{option_map}
use Rattle.std.specs.Str.{IsUtf8}
use Rattle.trace_keys.specs.Keys.{Key}
use Rattle.trace_keys.specs.Fingerprints.{fingerprint_of}
use Rattle.trace_keys.specs.KeyLists.{keys_in, length_of, AreKeysIn, HaveTexts}
use Rattle.trace_keys.specs.declared.fingerprint.Fingerprint.{Fingerprint}

-- the key with a fingerprint whose text starts at a place of the texts
abbrev pub key_from : Fingerprint → ℕ → List ℕ → Key
key_from fingerprint start texts = record { file = fingerprint.file; section = fingerprint.section; text = take fingerprint.length (drop start texts) }

-- as many keys as fingerprints
pub length-keys_in : (fingerprints : List Fingerprint) (texts : List ℕ) → length (keys_in fingerprints texts) ≡ length fingerprints
length-keys_in [] texts = refl
length-keys_in (fingerprint ∷ fingerprints) texts = ap suc (length-keys_in fingerprints (drop fingerprint.length texts))

length_of-cons : (fingerprint : Fingerprint) (fingerprints : List Fingerprint) → length_of (fingerprint ∷ fingerprints) ≡ fingerprint.length + length_of fingerprints
length_of-cons fingerprint fingerprints = sum_by-cons (λ (s : Fingerprint). s.length) fingerprint fingerprints

length_of-push : (fingerprints : List Fingerprint) (fingerprint : Fingerprint) → length_of (fingerprints ++ fingerprint ∷ []) ≡ length_of fingerprints + fingerprint.length
length_of-push fingerprints fingerprint = sum_by_push (λ (s : Fingerprint). s.length) fingerprints fingerprint

-- the key at a place, by the fingerprint there
pub keys_in-at : (fingerprints : List Fingerprint) (texts : List ℕ) (i : ℕ) (fingerprint : Fingerprint) → slice_get fingerprints i ≡ Some fingerprint
    → slice_get (keys_in fingerprints texts) i ≡ Some (key_from fingerprint (length_of (take i fingerprints)) texts)
keys_in-at [] texts i fingerprint at = absurd (none-some fingerprint at)
keys_in-at (x ∷ fingerprints) texts zero fingerprint at = ap (λ (s : Fingerprint). Some (key_from s 0 texts)) (same_Some x fingerprint at)
keys_in-at (x ∷ fingerprints) texts (suc i) fingerprint at =
    let start : x.length + length_of (take i fingerprints) ≡ length_of (x ∷ take i fingerprints) = sym (length_of-cons x (take i fingerprints)) in
    let K : List ℕ → Key = λ rest. record { file = fingerprint.file; section = fingerprint.section; text = take fingerprint.length rest } in
    keys_in-at fingerprints (drop x.length texts) i fingerprint at
    ∙ ap (λ (rest : List ℕ). Some (K rest)) (drop-drop (length_of (take i fingerprints)) x.length texts ∙ ap (λ n. drop n texts) start)

-- the fingerprint at a place is that of the key there
pub hashed-at : (fingerprints : List Fingerprint) (starts texts : List ℕ) (i : ℕ) (fingerprint : Fingerprint) (key : Key) → AreKeysIn fingerprints starts texts → slice_get fingerprints i ≡ Some fingerprint
    → slice_get (keys_in fingerprints texts) i ≡ Some key → fingerprint ≡ fingerprint_of key
hashed-at fingerprints starts texts i fingerprint key are at stands =
    same_Some fingerprint (fingerprint_of key)
    (sym at
    ∙ (ap (λ (ss : List Fingerprint). slice_get ss i) (sym are.hashed)
    ∙ (slice_get-map fingerprint_of (keys_in fingerprints texts) i ∙ ap (option_map fingerprint_of) stands)))

-- so is that of the key from it
pub hashed-from : (fingerprints : List Fingerprint) (starts texts : List ℕ) (i : ℕ) (fingerprint : Fingerprint) → AreKeysIn fingerprints starts texts → slice_get fingerprints i ≡ Some fingerprint
    → fingerprint ≡ fingerprint_of (key_from fingerprint (length_of (take i fingerprints)) texts)
hashed-from fingerprints starts texts i fingerprint are at =
    hashed-at fingerprints starts texts i fingerprint (key_from fingerprint (length_of (take i fingerprints)) texts) are at (keys_in-at fingerprints texts i fingerprint at)

-- the key with a fingerprint and a start that are read, and the part of the texts from there
pub key-read : (fingerprints : List Fingerprint) (starts texts now : List ℕ) (place : ℕ) (fingerprint : Fingerprint) (start : ℕ) → AreKeysIn fingerprints starts texts → slice_get fingerprints place ≡ Some fingerprint → place < length fingerprints
    → start ≡ get_or starts place start → now ≡ texts
    → slice_get (keys_in fingerprints texts) place ≡ Some (record { file = fingerprint.file; section = fingerprint.section; text = take (start + fingerprint.length - start) (drop start now) })
key-read fingerprints starts texts now place fingerprint start are at inside read same =
    let begun : start ≡ length_of (take place fingerprints) = get_or_read starts place start (omega (arith, inside, are.begun)) read 0 ∙ are.starts_are place inside in
    let K : List ℕ → Key = λ t. record { file = fingerprint.file; section = fingerprint.section; text = t } in
    let long : fingerprint.length ≡ start + fingerprint.length - start = omega arith in
    keys_in-at fingerprints texts place fingerprint at
    ∙ ap (λ (k : Key). Some k)
    (ap (λ n. key_from fingerprint n texts) (sym begun)
    ∙ (ap (λ (ts : List ℕ). key_from fingerprint start ts) (sym same)
    ∙ ap (λ n. K (take n (drop start now))) long))

-- a fingerprint that is read stands at its place
pub fingerprint-read : (fingerprints found : List Fingerprint) (i : ℕ) (fingerprint : Fingerprint) → found ≡ fingerprints → i < length found → fingerprint ≡ get_or found i fingerprint → slice_get fingerprints i ≡ Some fingerprint
fingerprint-read fingerprints found i fingerprint same inside read = ap (λ (ss : List Fingerprint). slice_get ss i) (sym same) ∙ slice_get_read found (length found) i fingerprint refl inside read

-- bytes in a part are bytes
pub part-bytes : (xs : List ℕ) (from n : ℕ) → ((i : ℕ) → get_or xs i 0 < 256) → (i : ℕ) → get_or (take n (drop from xs)) i 0 < 256
part-bytes xs from n bytes i = ⊎_elim
    (λ (below : i < n). omega (arith, get_or-take n (drop from xs) i 0 below, get_or-drop from xs i 0, bytes (from + i)))
    (λ (above : n ≤ i).
    omega (arith, get_or_past (take n (drop from xs)) i 0 (omega (arith, length-take n (drop from xs)))))
    (cases_lt i n)

-- a key more

-- the keys after one more
pub keys_in-push : (fingerprints : List Fingerprint) (texts : List ℕ) (fingerprint : Fingerprint) (text : List ℕ) → length_of fingerprints ≡ length texts → fingerprint.length ≡ length text
    → keys_in (fingerprints ++ fingerprint ∷ []) (texts ++ text) ≡ keys_in fingerprints texts ++ record { file = fingerprint.file; section = fingerprint.section; text = text } ∷ []
keys_in-push [] [] fingerprint text long same =
    let K : List ℕ → Key = λ t. record { file = fingerprint.file; section = fingerprint.section; text = t } in
    ap (λ (t : List ℕ). K t ∷ []) (take_all fingerprint.length text (omega (arith, same)))
keys_in-push [] (y ∷ texts) fingerprint text long same = absurd (omega (arith, long))
keys_in-push (x ∷ fingerprints) texts fingerprint text long same =
    let K : List ℕ → Key = λ t. record { file = x.file; section = x.section; text = t } in
    let all : length_of (x ∷ fingerprints) ≡ x.length + length_of fingerprints = length_of-cons x fingerprints in
    let inside : x.length ≤ length texts = omega (arith, all, long) in
    let rest : length_of fingerprints ≡ length (drop x.length texts) = omega (arith, all, long, length-drop x.length texts) in
    ap (λ (t : List ℕ). K t ∷ keys_in (fingerprints ++ fingerprint ∷ []) (drop x.length (texts ++ text))) (take-append-le x.length texts text inside)
    ∙ (ap (λ (t : List ℕ). K (take x.length texts) ∷ keys_in (fingerprints ++ fingerprint ∷ []) t) (drop-append-le x.length texts text inside)
    ∙ ap (λ (ks : List Key). K (take x.length texts) ∷ ks) (keys_in-push fingerprints (drop x.length texts) fingerprint text rest same))

-- the texts are UTF-8 after one more
texts-push : (keys : List Key) (key : Key) → HaveTexts keys → IsUtf8 key.text → HaveTexts (keys ++ key ∷ [])
texts-push [] key have utf8 zero found at = subst (λ (k : Key). IsUtf8 k.text) (same_Some key found at) utf8
texts-push [] key have utf8 (suc i) found at = absurd (none-some found at)
texts-push (k ∷ keys) key have utf8 zero found at = have zero found at
texts-push (k ∷ keys) key have utf8 (suc i) found at = texts-push keys key (λ j. have (suc j)) utf8 i found at

-- the fingerprints are those of the keys after one more
pub keys-push : (fingerprints : List Fingerprint) (starts texts : List ℕ) (key : Key) → AreKeysIn fingerprints starts texts → IsUtf8 key.text
    → AreKeysIn (fingerprints ++ fingerprint_of key ∷ []) (starts ++ length texts ∷ []) (texts ++ key.text)
keys-push fingerprints starts texts key are utf8 =
    let fingerprint : Fingerprint = fingerprint_of key in
    record {
      hashed = ap (map fingerprint_of) (keys_in-push fingerprints texts fingerprint key.text are.long refl)
          ∙ (map-append fingerprint_of (keys_in fingerprints texts) (key ∷ []) ∙ ap (λ (ss : List Fingerprint). ss ++ fingerprint ∷ []) are.hashed);
      long =
          let more : length_of (fingerprints ++ fingerprint ∷ []) ≡ length_of fingerprints + length key.text = length_of-push fingerprints fingerprint in
          omega (arith, more, are.long, length-append texts key.text);
      begun = omega (arith, are.begun, length-append starts (length texts ∷ []), length-append fingerprints (fingerprint ∷ []));
      starts_are = λ i inside. ⊎_elim
          (λ (before : i < length fingerprints).
          get_or_append_left starts (length texts ∷ []) 0 i (omega (arith, before, are.begun))
          ∙ (are.starts_are i before ∙ ap length_of (sym (take-append-le i fingerprints (fingerprint ∷ []) (omega (arith, before))))))
          (λ (after : length fingerprints ≤ i).
          let last : length fingerprints ≡ i = omega (arith, after, inside, length-append fingerprints (fingerprint ∷ [])) in
          get_or_push starts (length texts) 0 i (omega (arith, last, are.begun))
          ∙ (sym are.long ∙ ap length_of (sym (take_at fingerprints (fingerprint ∷ []) i last))))
          (cases_lt i (length fingerprints));
      utf8 = subst HaveTexts (sym (keys_in-push fingerprints texts fingerprint key.text are.long refl)) (texts-push (keys_in fingerprints texts) key are.utf8 utf8);
    }

-- the lists after one more, by what became of each
pub keys-pushed : (fingerprints : List Fingerprint) (starts texts : List ℕ) (key : Key) (new_fingerprints : List Fingerprint) (new_starts new_texts : List ℕ) → AreKeysIn fingerprints starts texts
    → IsUtf8 key.text → new_fingerprints ≡ fingerprints ++ fingerprint_of key ∷ [] → new_starts ≡ starts ++ length texts ∷ [] → new_texts ≡ texts ++ key.text → AreKeysIn new_fingerprints new_starts new_texts
keys-pushed fingerprints starts texts key new_fingerprints new_starts new_texts are utf8 fingerprints_are starts_are texts_are =
    subst (λ (ss : List Fingerprint). AreKeysIn ss new_starts new_texts) (sym fingerprints_are)
    (subst (λ (ns : List ℕ). AreKeysIn (fingerprints ++ fingerprint_of key ∷ []) ns new_texts) (sym starts_are)
    (subst (λ (ts : List ℕ). AreKeysIn (fingerprints ++ fingerprint_of key ∷ []) (starts ++ length texts ∷ []) ts) (sym texts_are) (keys-push fingerprints starts texts key are utf8)))

-- the keys after one more, likewise
pub keys_in-pushed : (fingerprints : List Fingerprint) (texts : List ℕ) (key : Key) (new_fingerprints : List Fingerprint) (new_texts : List ℕ) → length_of fingerprints ≡ length texts
    → new_fingerprints ≡ fingerprints ++ fingerprint_of key ∷ [] → new_texts ≡ texts ++ key.text → keys_in new_fingerprints new_texts ≡ keys_in fingerprints texts ++ key ∷ []
keys_in-pushed fingerprints texts key new_fingerprints new_texts long fingerprints_are texts_are =
    ap (λ (ss : List Fingerprint). keys_in ss new_texts) fingerprints_are
    ∙ (ap (keys_in (fingerprints ++ fingerprint_of key ∷ [])) texts_are ∙ keys_in-push fingerprints texts (fingerprint_of key) key.text long refl)
