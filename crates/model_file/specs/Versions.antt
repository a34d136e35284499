-- What each version of the model file contains.
use Rattle.std.specs.Prelude.{ℕ, List, [], ◌∷◌, codes}
use Rattle.limits.specs.declared.TheConstants.{MAX_TYPES, MAX_MODEL_BYTES, VERSION_1_TYPES, VERSION_1_BYTES}
use Rattle.model_file.specs.declared.version.Version.{Version}
use Rattle.model_file.specs.declared.version.Version.TheVariants.{One, Two}

-- the number of the version
abbrev pub number_of : Version → ℕ
number_of One = 1
number_of Two = 2

-- the limit on the bytes of a file of the version
abbrev pub max_bytes : Version → ℕ
max_bytes One = VERSION_1_BYTES
max_bytes Two = MAX_MODEL_BYTES

-- the limit on the types of a file of the version
abbrev pub max_types : Version → ℕ
max_types One = VERSION_1_TYPES
max_types Two = MAX_TYPES

-- the eight keys of a file of either version
abbrev pub first_keys : List (List ℕ)
first_keys =
    codes "blocks" ∷ codes "edges" ∷ codes "invariants" ∷ codes "merges"
    ∷ codes "partitions" ∷ codes "splits" ∷ codes "types" ∷ codes "version" ∷ []

-- the keys of the version; version 2 has one more
abbrev pub keys : Version → List (List ℕ)
keys One = first_keys
keys Two = codes "kinds" ∷ first_keys
