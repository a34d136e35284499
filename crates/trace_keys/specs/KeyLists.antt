-- Keys by their fingerprints, and all their texts one after another.
use Rattle.std.specs.Prelude.{ℕ, ◌≡◌, ◌<◌, List, [], ◌∷◌, map, length, take, drop, slice_index, slice_get, Some}
use Rattle.std.specs.List.{sum_by}
use Rattle.std.specs.Str.{IsUtf8}
use Rattle.trace_keys.specs.Keys.{Key}
use Rattle.trace_keys.specs.Fingerprints.{fingerprint_of}
use Rattle.trace_keys.specs.declared.fingerprint.Fingerprint.{Fingerprint}

-- the keys with these fingerprints: the text of each is as long as its fingerprint says, and starts where the one before ends
abbrev pub keys_in : List Fingerprint → List ℕ → List Key
keys_in [] texts = []
keys_in (fingerprint ∷ fingerprints) texts = record { file = fingerprint.file; section = fingerprint.section; text = take fingerprint.length texts } ∷ keys_in fingerprints (drop fingerprint.length texts)

-- how long some texts are together
abbrev pub length_of : List Fingerprint → ℕ
length_of fingerprints = sum_by (λ fingerprint. fingerprint.length) fingerprints

-- the text of each key is UTF-8
abbrev pub HaveTexts : List Key → Type 0
HaveTexts keys = (i : ℕ) (key : Key) → slice_get keys i ≡ Some key → IsUtf8 key.text

-- these are the fingerprints of the keys that they make with the texts, and the starts say where the text of each starts
pub record AreKeysIn (fingerprints : List Fingerprint) (starts texts : List ℕ) : Type 0 where
  pub hashed : map fingerprint_of (keys_in fingerprints texts) ≡ fingerprints
  pub long : length_of fingerprints ≡ length texts
  pub begun : length starts ≡ length fingerprints
  pub starts_are : (i : ℕ) → i < length fingerprints → slice_index starts i ≡ length_of (take i fingerprints)
  pub utf8 : HaveTexts (keys_in fingerprints texts)
