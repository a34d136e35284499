-- What becomes of a key: of one that is there, and of a new one.
use Rattle.std.specs.Prelude.{ℕ, ◌≡◌, ◌≢◌, List, [], ◌∷◌, ◌++◌, length, slice_get, Some}
use Rattle.std.specs.List.{position_or_len}
use Rattle.trace_keys.specs.Keys.{AreApart, Key, same_key, with_new}

-- the key is found at this place, and is not put again
pub record IsFoundAt (keys : List Key) (key : Key) (place : ℕ) : Type 0 where
  pub found : position_or_len (same_key key) keys ≡ place
  pub stays : with_new same_key keys key ≡ keys

-- the key is put at the end, which is its place, and no key is there twice
pub record IsPut (keys : List Key) (key : Key) : Type 0 where
  pub found : position_or_len (same_key key) keys ≡ length keys
  pub grows : with_new same_key keys key ≡ keys ++ key ∷ []
  pub apart : AreApart same_key (with_new same_key keys key)

-- each key that is among the keys is found at its own place
abbrev pub KnownAreFound : Type 0
KnownAreFound =
    (keys : List Key) (key : Key) (place : ℕ) → AreApart same_key keys → slice_get keys place ≡ Some key
    → IsFoundAt keys key place

-- each key that is at no place is put at the end
abbrev pub NewArePut : Type 0
NewArePut =
    (keys : List Key) (key : Key) → AreApart same_key keys
    → ((place : ℕ) → slice_get keys place ≢ Some key) → IsPut keys key
