-- Where keys are stored.
use Rattle.std.specs.Prelude.{ℕ, ◌≡◌, ◌+◌, ◌/◌, ◌%◌, ◌^◌, bit_xor, ◌<◌, ◌==◌, ◌&&◌, Bool, false, List, slice_get, String, Option, Some, ◌⊎◌, if◌then◌else◌}
use Rattle.std.specs.Map.{lookup}
use Rattle.std.specs.Option.{option_map_or}
use Rattle.std.specs.Ordering.{nat_cmp, ordering_then}
use Rattle.std.specs.String.{string_bytes, string_cmp}
use Rattle.std.specs.declared.alloc.Global.{Global}
use Rattle.std.specs.declared.cmp.Ordering.{Ordering}
use Rattle.trace_keys.specs.Keys.{Key, same_key, AreApart}
use Rattle.trace_keys.specs.Fingerprints.{front_of, end_of, fingerprint_of, mix_of}
use Rattle.key_table.specs.declared.slots.Slot.{Slot}
use Rattle.key_table.specs.declared.slots.TheConstants.{WINDOW}

-- the first slot that a key may have, from its mixed fingerprint: the upper bits that are not shifted out
unfoldable pub home_of : ℕ → ℕ → ℕ
home_of shift mix = mix / 2 ^ 32 / 2 ^ shift

-- the tag of a slot, from the mixed fingerprint: the exclusive or of both halves
unfoldable pub tag_of : ℕ → ℕ
tag_of mix = bit_xor (mix / 2 ^ 32) (mix % 2 ^ 32)

-- a slot without a place
abbrev pub is_empty : Slot → Bool
is_empty slot = slot.place == 4294967295

-- there is a slot at this index, and it is without a place
abbrev pub is_empty_at : List Slot → ℕ → Bool
is_empty_at slots at = option_map_or is_empty (slice_get slots at) false

-- none of the WINDOW slots from a home on is without a place
abbrev pub IsFull : List Slot → ℕ → Type 0
IsFull slots home = (i : ℕ) → i < WINDOW → is_empty_at slots (home + i) ≡ false

-- the slot for a key at a place
abbrev pub slot_of : Key → ℕ → Slot
slot_of key place = record { tag = tag_of (mix_of (fingerprint_of key)); place = place }

-- none of the first i slots from a home on is without a place
abbrev pub IsFullBefore : List Slot → ℕ → ℕ → Type 0
IsFullBefore slots home i = (k : ℕ) → k < i → is_empty_at slots (home + k) ≡ false

-- the slot is one of the WINDOW slots from a home on, and none before it there is without a place
abbrev pub Stands : List Slot → ℕ → Slot → Type 0
Stands slots home slot = (i : ℕ) × ((i < WINDOW) × (slice_get slots (home + i) ≡ Some slot) × IsFullBefore slots home i)

-- the home of a key
abbrev pub key_home : ℕ → Key → ℕ
key_home shift key = home_of shift (mix_of (fingerprint_of key))

-- no slot from a home on, up to the first without a place, leads to the key
abbrev pub StandsNowhere : List Key → List Slot → ℕ → Key → Type 0
StandsNowhere keys slots home key =
    (i : ℕ) → i < WINDOW → IsFullBefore slots home i → (place : ℕ) → slice_get slots (home + i) ≡ Some (slot_of key place) → slice_get keys place ≡ Some key → ⊥

-- two words, a file, a section and a text as a key
abbrev pub key_of : ℕ × ℕ × ℕ × ℕ × String Global → Key
key_of k = record { file = k.2; section = k.3; text = string_bytes k.4 }

-- the order of such keys: by the two words, then by file, by section and by text
abbrev pub key_cmp : ℕ × ℕ × ℕ × ℕ × String Global → ℕ × ℕ × ℕ × ℕ × String Global → Ordering
key_cmp k l =
    ordering_then (ordering_then (ordering_then (ordering_then (nat_cmp k.0 l.0) (nat_cmp k.1 l.1)) (nat_cmp k.2 l.2)) (nat_cmp k.3 l.3)) (string_cmp k.4 l.4)

-- the two words, the file, the section and the text are those of the key
abbrev pub is_key_of : Key → ℕ × ℕ × ℕ × ℕ × String Global → Bool
is_key_of key k = front_of key.text == k.0 && end_of key.text == k.1 && same_key key (key_of k)

-- the place that the rest, the entries beside the slots, gives a key
abbrev pub rest_place : List ((ℕ × ℕ × ℕ × ℕ × String Global) × ℕ) → Key → Option ℕ
rest_place rest key = lookup (is_key_of key) rest

-- the new rest is the old one with the place of a key added
abbrev pub RestGrows : (old new : List ((ℕ × ℕ × ℕ × ℕ × String Global) × ℕ)) → Key → ℕ → Type 0
RestGrows old new key place = (q : Key) → rest_place new q ≡ (if same_key q key then Some place else rest_place old q)

-- a key is in one of its slots, or all of them are taken and the rest has its place
abbrev pub IsPlaced : List Slot → ℕ → List ((ℕ × ℕ × ℕ × ℕ × String Global) × ℕ) → Key → ℕ → Type 0
IsPlaced slots shift rest key place =
    Stands slots (key_home shift key) (slot_of key place) ⊎ (IsFull slots (key_home shift key) × (rest_place rest key ≡ Some place))

-- each of the keys is placed
abbrev pub ArePlaced : List Slot → ℕ → List ((ℕ × ℕ × ℕ × ℕ × String Global) × ℕ) → List Key → Type 0
ArePlaced slots shift rest keys = (place : ℕ) (key : Key) → slice_get keys place ≡ Some key → IsPlaced slots shift rest key place

-- the new rest is the old one with this place added for the key that is there
abbrev pub GrowsAt : List Key → (old new : List ((ℕ × ℕ × ℕ × ℕ × String Global) × ℕ)) → ℕ → Type 0
GrowsAt keys old new place = (key : Key) → slice_get keys place ≡ Some key → RestGrows old new key place

-- whatever the slots are, keys that are placed with the old rest are placed with the new one
abbrev pub KeepsPlaced : List Key → (old new : List ((ℕ × ℕ × ℕ × ℕ × String Global) × ℕ)) → Type 0
KeepsPlaced keys old new = (slots : List Slot) (shift : ℕ) → ArePlaced slots shift old keys → ArePlaced slots shift new keys

-- each key is placed, and none occurs twice
pub record AreKeysPlaced (slots : List Slot) (shift : ℕ) (rest : List ((ℕ × ℕ × ℕ × ℕ × String Global) × ℕ)) (keys : List Key) : Type 0 where
  pub placed : ArePlaced slots shift rest keys
  pub apart : AreApart same_key keys
