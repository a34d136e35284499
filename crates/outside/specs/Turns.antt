-- Which inputs were opened: known files, opened in their order.
use Rattle.std.specs.Prelude.{ℕ, zero, suc, ◌≡◌, ◌≤◌, ◌⊎◌, ◌+◌, ◌-◌, ◌^◌, ◌==◌, min, Bool, true, false, if◌then◌else◌}
use Rattle.std.specs.Prelude.{List, [], ◌∷◌, length, take, slice_get, Option, Some, None, Result, Ok, Err}
use Rattle.std.specs.Option.{option_map_or}
use Rattle.std.specs.Str.{bytes_eq}
use Rattle.outside.specs.Inputs.{Files, InputState}

-- no known byte is left
abbrev pub at_end : Option (List ℕ) → Bool
at_end None = true
at_end (Some bytes) = length bytes == 0

-- the file at a place has this name
abbrev pub stands_at : Files → ℕ → List ℕ → Bool
stands_at files n name = option_map_or (λ file. bytes_eq file.0 name) (slice_get files n) false

-- the number if the condition is true, otherwise None
abbrev pub if_so : Option ℕ → Bool → Option ℕ
if_so None so = None
if_so (Some n) so = if so then Some n else None

-- how many files were opened in turn, after one with this name: one more if it is the next, otherwise None
abbrev pub in_turn : Option Files → List ℕ → Option ℕ → Option ℕ
in_turn None name followed = None
in_turn (Some files) name None = None
in_turn (Some files) name (Some n) = if stands_at files n name then Some (n + 1) else None

-- the same after several names, one after another
abbrev pub all_in_turn : Option Files → Option ℕ → List (List ℕ) → Option ℕ
all_in_turn files followed [] = followed
all_in_turn files followed (name ∷ names) = all_in_turn files (in_turn files name followed) names

-- the same once the open input is closed: None if it is not at its end
abbrev pub followed_to_end : InputState → Option ℕ
followed_to_end s = if_so s.followed (at_end s.rest)

-- the same after `open(name)` with this answer
abbrev pub followed_after : {T E : Type 0} → InputState → List ℕ → Result T E → Option ℕ
followed_after old name (Ok x) = in_turn old.files name (followed_to_end old)
followed_after old name (Err e) = followed_to_end old

-- how many inputs were opened, after this many more; the count stops at 2^64 - 1
abbrev pub opens_after : ℕ → ℕ → ℕ
opens_after opens zero = opens
opens_after opens (suc count) = min (opens + suc count) (2 ^ 64 - 1)

-- these inputs were opened in turn, and no others
abbrev pub OpensInTurn : List (List ℕ) → InputState → InputState → Type 0
OpensInTurn names old new = new.followed ≡ all_in_turn old.files (followed_to_end old) names

-- nothing changed, or some first ones of these inputs were opened in turn, and no others
abbrev pub OpensFirst : List (List ℕ) → InputState → InputState → Type 0
OpensFirst names old new =
    (new ≡ old)
    ⊎ ((count : ℕ) × (count ≤ length names) × (new.opens ≡ opens_after old.opens count)
    × OpensInTurn (take count names) old new)
