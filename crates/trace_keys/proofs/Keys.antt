-- Keys that are the same, and keys at their places.
use Rattle.std.proofs.Common.{◌≡◌, ◌⊎◌, ℕ, zero, suc, true, false, ◌&&◌, ◌||◌, List, [], ◌∷◌, ◌++◌, length, refl, sym, ap, ◌∙◌, subst, inl, inr, ⊎_elim, arith, true≢false, ◌==◌, Option, Some, None}
use Rattle.std.proofs.lemmas.Bool.{cases_Bool, cond-true, and_parts, and_from, or_left, or_right, false_from_ne_true}
use Rattle.std.proofs.lemmas.Bool.Decides.{Decides-eqb}
use Rattle.std.proofs.lemmas.Slice.Eq.{bytes_eq-Decides}
use Rattle.std.proofs.lemmas.Option.{same_Some, none-some}
use Rattle.std.specs.Bool.{Decides}
use Rattle.std.specs.List.{slice_get, list_any, position_or_len}
use Rattle.std.specs.Option.{option_map_or}
use Rattle.std.specs.Str.{bytes_eq}
use Rattle.trace_keys.specs.Keys.{Key, same_key, with_new, AreApart}
use Rattle.trace_keys.specs.Fingerprints.{fingerprint_of}
use Rattle.trace_keys.specs.declared.fingerprint.Fingerprint.{Fingerprint}
use Rattle.trace_keys.proofs.Apart.{apart-place}

-- a key is the same as itself
pub same_key-refl : (k : Key) → same_key k k ≡ true
same_key-refl k =
    and_from _ _ (and_from _ _ ((Decides-eqb k.file k.file).1 refl) ((Decides-eqb k.section k.section).1 refl)) ((bytes_eq-Decides k.text k.text).1 refl)

-- keys that are the same are equal
pub same_key-≡ : (k l : Key) → same_key k l ≡ true → k ≡ l
same_key-≡ k l same =
    let parts = and_parts (k.file == l.file && k.section == l.section) (bytes_eq k.text l.text) same in
    let numbers = and_parts (k.file == l.file) (k.section == l.section) parts.0 in
    let K : ℕ → ℕ → List ℕ → Key = λ f s t. record { file = f; section = s; text = t } in
    ap (λ f. K f k.section k.text) ((Decides-eqb k.file l.file).0 numbers.0)
    ∙ (ap (λ s. K l.file s k.text) ((Decides-eqb k.section l.section).0 numbers.1) ∙ ap (λ t. K l.file l.section t) ((bytes_eq-Decides k.text l.text).0 parts.1))

-- keys that differ, the other way round
pub same_key-swap : (k l : Key) → same_key k l ≡ false → same_key l k ≡ false
same_key-swap k l differ = false_from_ne_true (same_key l k) (λ same. true≢false (sym (subst (λ m. same_key m l ≡ true) (same_key-≡ l k same) (same_key-refl l)) ∙ differ))

-- the test of keys tells whether they are equal
pub same_key-Decides : (k l : Key) → Decides (same_key k l) (k ≡ l)
same_key-Decides k l = (same_key-≡ k l, λ same. subst (λ m. same_key k m ≡ true) same (same_key-refl k))

-- what stands at a place behind a new last key: one that stood there, or that key
pub stands-before : (keys : List Key) (k : Key) (i : ℕ) (q : Key) → slice_get (keys ++ k ∷ []) i ≡ Some q → (slice_get keys i ≡ Some q) ⊎ ((i ≡ length keys) × (q ≡ k))
stands-before [] k zero q at = inr (refl, sym (same_Some k q at))
stands-before [] k (suc i) q at = absurd (none-some q at)
stands-before (l ∷ keys) k zero q at = inl at
stands-before (l ∷ keys) k (suc i) q at = ⊎_elim
    (λ here. inl here)
    (λ last. inr (omega (arith, last.0), last.1))
    (stands-before keys k i q at)

-- a key that stands somewhere is one of the keys
pub stands-any : (keys : List Key) (i : ℕ) (key : Key) → slice_get keys i ≡ Some key → list_any (same_key key) keys ≡ true
stands-any [] i key at = absurd (none-some key at)
stands-any (k ∷ keys) zero key at = or_left _ _ (ap (same_key key) (same_Some k key at) ∙ same_key-refl key)
stands-any (k ∷ keys) (suc i) key at = or_right _ _ (stands-any keys i key at)

-- one of the keys stands somewhere
pub any-stands : (keys : List Key) (key : Key) → list_any (same_key key) keys ≡ true → (i : ℕ) × (slice_get keys i ≡ Some key)
any-stands [] key any = absurd (true≢false (sym any))
any-stands (k ∷ keys) key any = ⊎_elim
    (λ hit. (zero, ap (λ l. Some l) (sym (same_key-≡ key k hit))))
    (λ miss.
    let rest = any-stands keys key (sym (ap (λ b. b || list_any (same_key key) keys) miss) ∙ any) in
    (suc rest.0, rest.1))
    (cases_Bool (same_key key k))

-- the place of a key, by a look at what stands there
pub key-at : (keys : List Key) (i : ℕ) (key : Key) → AreApart same_key keys → slice_get keys i ≡ Some key → i ≡ position_or_len (same_key key) keys
key-at keys i key apart at = sym (apart-place same_key same_key-Decides keys i key apart at)

-- a key stands at one place alone
pub one-place : (keys : List Key) (i j : ℕ) (key : Key) → AreApart same_key keys → slice_get keys i ≡ Some key → slice_get keys j ≡ Some key → i ≡ j
one-place keys i j key apart at_i at_j = key-at keys i key apart at_i ∙ sym (key-at keys j key apart at_j)

-- a key by the numbers of its fingerprint and its text
pub by-fingerprint : (key : Key) (fingerprint : Fingerprint) (text : List ℕ) → fingerprint ≡ fingerprint_of key → text ≡ key.text → record { file = fingerprint.file; section = fingerprint.section; text = text } ≡ key
by-fingerprint key fingerprint text hashed same =
    let K : ℕ → ℕ → List ℕ → Key = λ f s t. record { file = f; section = s; text = t } in
    ap (λ t. K fingerprint.file fingerprint.section t) same ∙ ap (λ (s : Fingerprint). K s.file s.section key.text) hashed

-- a key at which a test passes
pub key-told : (found : Option Key) (key : Key) → option_map_or (same_key key) found false ≡ true → found ≡ Some key
key-told None key passes = absurd (true≢false (sym passes))
key-told (Some k) key passes = ap (λ l. Some l) (sym (same_key-≡ key k passes))

-- and it passes at the key
pub told-key : (found : Option Key) (key : Key) → found ≡ Some key → option_map_or (same_key key) found false ≡ true
told-key found key is = ap (λ f. option_map_or (same_key key) f false) is ∙ same_key-refl key

-- what is answered of a key, and what the keys are then

abbrev pub IsKnown : List Key → List Key → ℕ → Key → Type 0
IsKnown old new i key = (i ≡ position_or_len (same_key key) old) × (new ≡ with_new same_key old key)

-- a key that is there
pub known-key : (old keys : List Key) (i : ℕ) (key : Key) → AreApart same_key keys → keys ≡ old → slice_get keys i ≡ Some key → IsKnown old keys i key
known-key old keys i key apart view at =
    subst (λ (ks : List Key). IsKnown ks keys i key) view (key-at keys i key apart at, sym (cond-true _ _ _ (stands-any keys i key at)))
