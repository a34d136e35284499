-- Slots that give the places of the texts of types.
use Rattle.std.specs.Prelude.{ℕ, ◌≡◌, ◌<◌, ◌≤◌, List, Some, slice_get, slice_index}
use Rattle.trace_keys.specs.Keys.{Key}
use Rattle.trace_keys.specs.Fingerprints.{fingerprint_of}
use Rattle.trace_builder.specs.declared.slots.Slot.{Slot}

-- the key whose fingerprint is that of a type's text
abbrev pub type_key : List ℕ → Key
type_key text = record { file = 0; section = 0; text = text }

-- the text is at the slot's place, and the slot has its fingerprint
pub record HasFingerprint (texts : List (List ℕ)) (slot : Slot) (text : List ℕ) : Type 0 where
  pub stands : slice_get texts slot.place ≡ Some text
  pub bytes : (i : ℕ) → slice_index text i < 256
  pub fingerprint : slot.fingerprint ≡ fingerprint_of (type_key text)

-- a slot whose fingerprint is that of a short text leads to that text
abbrev pub TellsText : List (List ℕ) → Slot → Type 0
TellsText texts slot = slot.fingerprint.length ≤ 16 → (text : List ℕ) × HasFingerprint texts slot text
