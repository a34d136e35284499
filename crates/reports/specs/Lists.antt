-- Where lists of ids stand.
use Rattle.std.specs.Prelude.{ℕ, ◌≡◌, ◌+◌, ◌*◌, ◌/◌, ◌%◌, ◌^◌, bit_xor, ◌<◌, ◌==◌, Bool, true, false, List, [], ◌∷◌, ◌++◌, length, map, slice_get, Option, Some, None, ◌⊎◌, if◌then◌else◌}
use Rattle.std.specs.Borrow.{Bor}
use Rattle.std.specs.List.{fold}
use Rattle.std.specs.Map.{lookup}
use Rattle.std.specs.Option.{option_map_or}
use Rattle.std.specs.Str.{bytes_eq}
use Rattle.traces.specs.Words.{AreApart}
use Rattle.reports.specs.declared.slots.Found.{Found}
use Rattle.reports.specs.declared.slots.Found.TheVariants.{Place, Free, Full}
use Rattle.reports.specs.declared.slots.TheConstants.{WINDOW, EMPTY}

-- the lists that references point to
abbrev pub shown_lists : List (Bor (List ℕ)) → List (List ℕ)
shown_lists lists = map (λ list. list.now) lists

-- what a hash is after one id more
unfoldable pub mixed : ℕ → ℕ → ℕ
mixed hash id = (bit_xor hash id * 11400714819323198485) % 2 ^ 64

-- the hash of a list of ids
abbrev pub hash_of : List ℕ → ℕ
hash_of ids = fold mixed 0 ids

-- the upper half of a hash, shifted
unfoldable pub upper_bits : ℕ → ℕ → ℕ
upper_bits shift hash = hash / 2 ^ 32 / 2 ^ shift

-- the first slot in which a list may stand
abbrev pub home_of : ℕ → List ℕ → ℕ
home_of shift ids = upper_bits shift (hash_of ids)

-- a slot without a place is there
abbrev pub is_empty_at : List ℕ → ℕ → Bool
is_empty_at slots at = option_map_or (λ slot. slot == EMPTY) (slice_get slots at) false

-- a slot is not empty, and leads to another list
abbrev pub HasAnother : List (List ℕ) → List ℕ → List ℕ → ℕ → Type 0
HasAnother lists slots ids at =
    (is_empty_at slots at ≡ false) × ((place : ℕ) → slice_get slots at ≡ Some place → slice_get lists place ≡ Some ids → ⊥)

-- so do all slots from a home on, up to the slot i
abbrev pub HaveOthers : List (List ℕ) → List ℕ → List ℕ → ℕ → ℕ → Type 0
HaveOthers lists slots ids home i = (k : ℕ) → k < i → HasAnother lists slots ids (home + k)

-- what the slots say of a list
abbrev pub Finds : List (List ℕ) → List ℕ → List ℕ → ℕ → Found → Type 0
Finds lists slots ids home (Place place) = slice_get lists place ≡ Some ids
Finds lists slots ids home (Free at) =
    (i : ℕ) × ((i < WINDOW) × (at ≡ home + i) × (is_empty_at slots at ≡ true) × HaveOthers lists slots ids home i)
Finds lists slots ids home Full = HaveOthers lists slots ids home WINDOW

-- no slot from a home on, before the slot i, is empty
abbrev pub IsFullBefore : List ℕ → ℕ → ℕ → Type 0
IsFullBefore slots home i = (k : ℕ) → k < i → is_empty_at slots (home + k) ≡ false

-- a place stands in one of the slots from a home on, and none up to it is empty
abbrev pub Stands : List ℕ → ℕ → ℕ → Type 0
Stands slots home place = (i : ℕ) × ((i < WINDOW) × (slice_get slots (home + i) ≡ Some place) × IsFullBefore slots home (i + 1))

-- the place that the rest have for a list
abbrev pub rest_place : List (Bor (List ℕ) × ℕ) → List ℕ → Option ℕ
rest_place rest ids = lookup (λ key. bytes_eq ids key.now) rest

-- the rest after the place of a list was put among them
abbrev pub RestGrows : (old new : List (Bor (List ℕ) × ℕ)) → List ℕ → ℕ → Type 0
RestGrows old new ids place = (other : List ℕ) → rest_place new other ≡ (if bytes_eq other ids then Some place else rest_place old other)

-- the rest have the place of a list, and nothing changes, or have none, and the list is put at the end, and its place among them
abbrev pub IsInRest : List (List ℕ) → List (Bor (List ℕ) × ℕ) → List ℕ → ℕ → List (List ℕ) → List (Bor (List ℕ) × ℕ) → Type 0
IsInRest lists rest ids place lists_after rest_after =
    ((rest_place rest ids ≡ Some place) × (lists_after ≡ lists) × (rest_after ≡ rest))
    ⊎ ((rest_place rest ids ≡ None) × (place ≡ length lists) × (lists_after ≡ lists ++ ids ∷ []) × RestGrows rest rest_after ids place)

-- a list stands in a slot, or all its slots are taken, and the rest have its place
abbrev pub IsPlaced : List ℕ → ℕ → List (Bor (List ℕ) × ℕ) → List ℕ → ℕ → Type 0
IsPlaced slots shift rest ids place =
    Stands slots (home_of shift ids) place ⊎ (IsFullBefore slots (home_of shift ids) WINDOW × (rest_place rest ids ≡ Some place))

-- each list stands once, and is placed, and the rest have places of lists alone
pub record AreListsPlaced (slots : List ℕ) (shift : ℕ) (rest : List (Bor (List ℕ) × ℕ)) (lists : List (List ℕ)) : Type 0 where
  pub placed : (place : ℕ) (ids : List ℕ) → slice_get lists place ≡ Some ids → IsPlaced slots shift rest ids place
  pub known : (ids : List ℕ) (place : ℕ) → rest_place rest ids ≡ Some place → slice_get lists place ≡ Some ids
  pub apart : AreApart bytes_eq lists
