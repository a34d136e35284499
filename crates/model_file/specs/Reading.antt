-- What a model file of a version is read as: the model, or the first refusal.
use Rattle.std.specs.Prelude.{◌≡◌, ℕ, ◌==◌, ◌&&◌, Bool, true, false, List, length, codes, nat_lt, if◌then◌else◌, Option, Some, None, Result, Ok, Err}
use Rattle.std.specs.List.{list_any}
use Rattle.std.specs.Option.{option_and_then}
use Rattle.std.specs.Str.{bytes_eq, is_utf8}
use Rattle.serde_json.specs.Data.{Data, Members, no_members, member}
use Rattle.serde_json.specs.Find.{get, as_number, as_u64, as_str, as_object}
use Rattle.serde_json.specs.Read.{read}
use Rattle.invariants.specs.declared.Kinds.{Kinds}
use Rattle.invariants.specs.declared.Kinds.TheVariants.{Three}
use Rattle.invariants.specs.declared.records.Partition.{Partition}
use Rattle.invariants.specs.declared.records.Edge.{Edge}
use Rattle.invariants.specs.declared.records.Listed.{Listed}
use Rattle.invariants.specs.declared.records.Merge.{Merge}
use Rattle.invariants.specs.declared.records.Split.{Split}
use Rattle.invariants.specs.declared.records.Block.{Block}
use Rattle.invariants.specs.declared.records.Model.{Model}
use Rattle.model_file.specs.Rules.{types_hold, partitions_hold, type_of, edges_hold, invariants_hold, merges_hold, splits_hold, blocks_hold}
use Rattle.model_file.specs.declared.version.Version.{Version}
use Rattle.model_file.specs.declared.version.Version.TheVariants.{One, Two}
use Rattle.model_file.specs.Versions.{number_of, max_bytes, max_types, keys}
use Rattle.model_file.specs.Entries.{list_in, kinds_named, partition_in, edge_in, listed_in, merge_in, split_in, block_in}
use Rattle.model_file.specs.declared.refusal.Field.{Field}
use Rattle.model_file.specs.declared.refusal.Field.TheVariants.{Root, Version as VersionField, Extra, Types, Kinds as KindsField, Partitions, Edges, Invariants, Merges, Splits, Blocks}
use Rattle.model_file.specs.declared.refusal.FileError.{FileError}
use Rattle.model_file.specs.declared.refusal.FileError.TheVariants as refused

-- the next step, unless this one was refused
infixl 10 ◌>>=◌
abbrev pub ◌>>=◌ : {A B : Type 0} → Result A FileError → (A → Result B FileError)
    → Result B FileError
(Ok x) >>= f = f x
(Err e) >>= f = Err e

-- the value, or the refusal of the part if there is none
abbrev pub or_shape : {A : Type 0} → Field → Option A → Result A FileError
or_shape field None = Err (refused.Shape field)
or_shape field (Some x) = Ok x

-- the value if it passes the rule of its part, or else the refusal of the part
abbrev pub tested : {A : Type 0} → Field → Bool → A → Result A FileError
tested field true x = Ok x
tested field false x = Err (refused.Shape field)

-- ---- the object, its version and its keys

-- the members of the value if it is an object, or the refusal
unfoldable pub root_in : Data → Result Members FileError
root_in d = or_shape Root (as_object d)

-- the number must be that of the version
abbrev pub if_of : Version → Option ℕ → Result (Unit {0}) FileError
if_of version None = Err (refused.Shape VersionField)
if_of version (Some n) = if n == number_of version then Ok tt else Err (refused.Version n)

-- the number under the key `version` must be that of the version
unfoldable pub version_in : Version → Data → Result (Unit {0}) FileError
version_in version d =
    if_of version (option_and_then as_u64 (option_and_then as_number (get (codes "version") d)))

-- whether the key is one of the version's
unfoldable pub is_key : Version → List ℕ → Bool
is_key version key = list_any (bytes_eq key) (keys version)

-- whether all keys are the version's
abbrev pub has_no_extra : Version → Members → Bool
has_no_extra version no_members = true
has_no_extra version (member key d ms) = is_key version key && has_no_extra version ms

-- all keys are the version's, or the refusal of an extra key
unfoldable pub keys_in : Version → Members → Result (Unit {0}) FileError
keys_in version ms = tested Extra (has_no_extra version ms) tt

-- an object with the version's number and only its keys, or the refusal
unfoldable pub head_in : Version → Data → Result (Unit {0}) FileError
head_in version d = root_in d >>= λ ms. version_in version d >>= λ v. keys_in version ms

-- ---- the parts

-- the list under a key, each entry read by f
unfoldable pub part_in : {A : Type 0} → (Data → Option A) → List ℕ → Field → Data
    → Result (List A) FileError
part_in f key field d = or_shape field (option_and_then (list_in f) (get key d))

-- the types, which must keep their rule; the version limits their number
unfoldable pub types_in : Version → Data → Result (List (List ℕ)) FileError
types_in version d =
    part_in as_str (codes "types") Types d
    >>= λ ts. tested Types (types_hold (max_types version) ts) ts

-- the kinds asked for: always three in version 1, and named in version 2
unfoldable pub kinds_in : Version → Data → Result Kinds FileError
kinds_in One d = Ok Three
kinds_in Two d = or_shape KindsField (option_and_then kinds_named (get (codes "kinds") d))

-- the partitions, for this number of types
unfoldable pub partitions_in : ℕ → Data → Result (List Partition) FileError
partitions_in types d =
    part_in partition_in (codes "partitions") Partitions d
    >>= λ ps. tested Partitions (partitions_hold types ps) ps

-- the edges; `type` gives the type of a listed partition
unfoldable pub edges_in : (ℕ → Option ℕ) → Data → Result (List Edge) FileError
edges_in type d =
    part_in edge_in (codes "edges") Edges d
    >>= λ es. tested Edges (edges_hold type es) es

-- the invariants of these kinds, for this number of types, with labels for this number of partitions
unfoldable pub invariants_in : Kinds → ℕ → ℕ → Data → Result (List Listed) FileError
invariants_in kinds types partitions d =
    part_in listed_in (codes "invariants") Invariants d
    >>= λ ls. tested Invariants (invariants_hold kinds types partitions ls) ls

-- the merges, which must keep their rule
unfoldable pub merges_in : Data → Result (List Merge) FileError
merges_in d =
    part_in merge_in (codes "merges") Merges d
    >>= λ ms. tested Merges (merges_hold ms) ms

-- the splits, for this number of invariants
unfoldable pub splits_in : ℕ → Data → Result (List Split) FileError
splits_in invariants d =
    part_in split_in (codes "splits") Splits d
    >>= λ ss. tested Splits (splits_hold invariants ss) ss

-- the blocks, for this number of invariants, after these splits
unfoldable pub blocks_in : (ℕ → Option ℕ) → ℕ → List Split → Data → Result (List Block) FileError
blocks_in type invariants ss d =
    part_in block_in (codes "blocks") Blocks d
    >>= λ bs. tested Blocks (blocks_hold type invariants ss bs) bs

-- ---- the whole

-- the model of the parts, or the first refusal
unfoldable pub parts_in : Version → Data → Result Model FileError
parts_in version d =
    types_in version d >>= λ ts. kinds_in version d >>= λ kinds.
    partitions_in (length ts) d >>= λ ps. edges_in (type_of ps) d >>= λ es.
    invariants_in kinds (length ts) (length ps) d >>= λ ls. merges_in d >>= λ ms.
    splits_in (length ls) d >>= λ ss. blocks_in (type_of ps) (length ls) ss d >>= λ bs.
    Ok (record {
      types = ts;
      kinds = kinds;
      partitions = ps;
      edges = es;
      invariants = ls;
      splits = ss;
      merges = ms;
      blocks = bs;
    })

-- the model of a JSON value, or its first refusal
unfoldable pub model_in : Version → Data → Result Model FileError
model_in version d = head_in version d >>= λ h. parts_in version d

-- the JSON value that `serde_json` reads from the bytes, if they are UTF-8 and it reads one
unfoldable pub value_of : List ℕ → Option Data
value_of bytes = if is_utf8 bytes then read bytes else None

-- the value, or the refusal of bytes without one
abbrev pub or_not_json : Option Data → Result Data FileError
or_not_json None = Err refused.NotJson
or_not_json (Some d) = Ok d

-- the model of the bytes of a file of this version, or the first refusal
unfoldable pub reads_as : Version → List ℕ → Result Model FileError
reads_as version bytes =
    if nat_lt (max_bytes version) (length bytes) then Err refused.TooLong
    else (or_not_json (value_of bytes) >>= model_in version)

-- the model of a file of version 2, or the first refusal
abbrev pub reads : List ℕ → Result Model FileError
reads = reads_as Two

-- the model of a file of version 1, or the first refusal
abbrev pub reads_version_1 : List ℕ → Result Model FileError
reads_version_1 = reads_as One

-- ---- for contracts: a call answers the expected reading, or runs out of memory

-- a refusal is that of the expected reading, or out of memory
abbrev pub Fails : {A : Type 0} → FileError → Result A FileError → Type 0
Fails refused.Memory read = Unit {0}
Fails refused.TooLong read = read ≡ Err refused.TooLong
Fails refused.NotJson read = read ≡ Err refused.NotJson
Fails (refused.Shape field) read = read ≡ Err (refused.Shape field)
Fails (refused.Version n) read = read ≡ Err (refused.Version n)

-- an answer is the expected reading, or out of memory
abbrev pub Gives : {A : Type 0} → Result A FileError → Result A FileError → Type 0
Gives (Ok x) read = read ≡ Ok x
Gives (Err e) read = Fails e read

-- why there is no value: out of memory, or the bytes are not JSON
abbrev pub IsNoValue : FileError → Option Data → Type 0
IsNoValue refused.Memory value = Unit {0}
IsNoValue refused.NotJson value = value ≡ None
IsNoValue refused.TooLong value = ⊥
IsNoValue (refused.Shape field) value = ⊥
IsNoValue (refused.Version n) value = ⊥
