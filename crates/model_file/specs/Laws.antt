-- The laws of writing and reading.
use Rattle.std.specs.Prelude.{◌≡◌, ◌≤◌, ℕ, List, length, All, IsUtf8, Some, Ok, Err}
use Rattle.invariants.specs.declared.records.Model.{Model}
use Rattle.serde_json.specs.Data.{object, Members}
use Rattle.serde_json.specs.Find.{get_member}
use Rattle.model_file.specs.Tree.{members_in, members_of_version_1, tree_of, tree_of_version_1, file_text}
use Rattle.model_shape.specs.Shapes.{IsWellShaped, IsOfVersion1}
use Rattle.model_file.specs.Reading.{value_of, reads, reads_version_1}
use Rattle.model_file.specs.declared.refusal.FileError.TheVariants as refused
use Rattle.model_file.specs.declared.refusal.Field.TheVariants.{Kinds as KindsField}
use Rattle.limits.specs.declared.TheConstants.{MAX_MODEL_BYTES, MAX_WRITTEN_BYTES, VERSION_1_BYTES}

-- bytes that contain the JSON value of a well-shaped model are read as that model
abbrev pub TreesAreRead : Type 0
TreesAreRead =
    (bytes : List ℕ) (m : Model) → length bytes ≤ MAX_MODEL_BYTES
    → value_of bytes ≡ Some (tree_of m) → IsWellShaped m → reads bytes ≡ Ok m

-- the text of a well-shaped model whose types are UTF-8 reads back as that model
abbrev pub WrittenReadsBack : Type 0
WrittenReadsBack = (m : Model) → IsWellShaped m → All IsUtf8 m.types → reads (file_text m) ≡ Ok m

-- a model that is read is well shaped
abbrev pub ReadIsWellShaped : Type 0
ReadIsWellShaped = (bytes : List ℕ) (m : Model) → reads bytes ≡ Ok m → IsWellShaped m

-- A model read from a file of version 2 comes from an object with exactly the keys of its JSON value, and the same
-- values.
abbrev pub ReadIsTree : Type 0
ReadIsTree =
    (bytes : List ℕ) (m : Model) → reads bytes ≡ Ok m → (ms : Members)
    × (value_of bytes ≡ Some (object ms))
    × ((key : List ℕ) → get_member key ms ≡ get_member key (members_in m))

-- the text of a well-shaped model keeps the limit on written bytes
abbrev pub TextsAreShort : Type 0
TextsAreShort = (m : Model) → IsWellShaped m → length (file_text m) ≤ MAX_WRITTEN_BYTES

-- what holds of a model read from a file of version 1
pub record IsReadAgain (m : Model) : Type 0 where
  -- it is well shaped
  pub shaped : IsWellShaped m
  -- it asks for three kinds, and keeps the limit of version 1 on types
  pub first : IsOfVersion1 m
  -- its text in version 2 reads back as the same model, if its types are UTF-8
  pub again : All IsUtf8 m.types → reads (file_text m) ≡ Ok m

-- this holds of every model read from a file of version 1
abbrev pub Version1IsReadAgain : Type 0
Version1IsReadAgain = (bytes : List ℕ) (m : Model) → reads_version_1 bytes ≡ Ok m → IsReadAgain m

-- bytes that contain the version 1 value of a well-shaped model of that version are read as that model in version 1
abbrev pub Version1TreesAreRead : Type 0
Version1TreesAreRead =
    (bytes : List ℕ) (m : Model) → length bytes ≤ VERSION_1_BYTES
    → value_of bytes ≡ Some (tree_of_version_1 m) → IsWellShaped m → IsOfVersion1 m → reads_version_1 bytes ≡ Ok m

-- A model read from a file of version 1 comes from an object with exactly the keys of its value in version 1, and the
-- same values.
abbrev pub Version1IsTree : Type 0
Version1IsTree =
    (bytes : List ℕ) (m : Model) → reads_version_1 bytes ≡ Ok m → (ms : Members)
    × (value_of bytes ≡ Some (object ms))
    × ((key : List ℕ) → get_member key ms ≡ get_member key (members_of_version_1 m))

-- version 1 refuses no file for its kinds
abbrev pub Version1NamesNoKinds : Type 0
Version1NamesNoKinds = (bytes : List ℕ) → reads_version_1 bytes ≡ Err (refused.Shape KindsField) → ⊥
