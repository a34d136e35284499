-- What a model file has under each of its keys.
use Rattle.std.specs.Prelude.{◌≡◌, ℕ, Bool, true, false, not, List, [], length, codes, Option, None, Result, Ok, Err, unwrap_or}
use Rattle.std.specs.List.{list_any}
use Rattle.std.specs.Option.{option_and_then}
use Rattle.std.specs.Str.{bytes_eq}
use Rattle.serde_json.specs.Data.{Data, object, Members}
use Rattle.serde_json.specs.Find.{get_member, as_str, as_object}
use Rattle.invariants.specs.declared.Kinds.{Kinds}
use Rattle.invariants.specs.declared.Kinds.TheVariants.{Three}
use Rattle.invariants.specs.declared.records.Partition.{Partition}
use Rattle.invariants.specs.declared.records.Edge.{Edge}
use Rattle.invariants.specs.declared.records.Listed.{Listed}
use Rattle.invariants.specs.declared.records.Merge.{Merge}
use Rattle.invariants.specs.declared.records.Split.{Split}
use Rattle.invariants.specs.declared.records.Block.{Block}
use Rattle.invariants.specs.declared.records.Model.{Model}
use Rattle.model_file.specs.declared.version.Version.{Version}
use Rattle.model_file.specs.declared.version.Version.TheVariants.{One, Two}
use Rattle.model_file.specs.Versions.{keys, max_types}
use Rattle.model_file.specs.Rules.{types_hold, partitions_hold, type_of, edges_hold, invariants_hold, merges_hold, splits_hold, blocks_hold}
use Rattle.model_file.specs.Entries.{list_in, kinds_named, partition_in, edge_in, listed_in, merge_in, split_in, block_in}
use Rattle.model_file.specs.Streams.{whole_in}
use Rattle.model_file.specs.Lists.{kept_in, types_over, invariants_over, splits_over, blocks_over}
use Rattle.model_file.specs.Reading.{◌>>=◌, or_shape, tested, if_of, has_no_extra, Fails}
use Rattle.model_file.specs.declared.refusal.Field.TheVariants as field
use Rattle.model_file.specs.declared.refusal.FileError.{FileError}
use Rattle.model_file.specs.declared.found.Found.{Found}
use Rattle.model_file.specs.declared.keys.Key.{Key}
use Rattle.model_file.specs.declared.keys.Key.TheVariants as key
use Rattle.model_file.specs.declared.keys.BoundedKey.{BoundedKey}
use Rattle.model_file.specs.declared.keys.BoundedKey.TheVariants as bounded
use Rattle.model_file.specs.declared.keys.WholeKey.{WholeKey}
use Rattle.model_file.specs.declared.keys.WholeKey.TheVariants as whole

-- nothing was found
abbrev pub nothing : Found
nothing = record {
  has_extra = false;
  version = None;
  types = None;
  kinds = None;
  partitions = None;
  edges = None;
  invariants = None;
  merges = None;
  splits = None;
  blocks = None;
}

-- the values found by looking up each key, each read in its form; a list that no model can have is kept only in part
abbrev pub found_by : Bool → (List ℕ → Option Data) → Found
found_by has_extra get = record {
  has_extra = has_extra;
  version = option_and_then whole_in (get (codes "version"));
  types = option_and_then (kept_in types_over as_str) (get (codes "types"));
  kinds = option_and_then kinds_named (get (codes "kinds"));
  partitions = option_and_then (list_in partition_in) (get (codes "partitions"));
  edges = option_and_then (list_in edge_in) (get (codes "edges"));
  invariants = option_and_then (kept_in invariants_over listed_in) (get (codes "invariants"));
  merges = option_and_then (list_in merge_in) (get (codes "merges"));
  splits = option_and_then (kept_in splits_over split_in) (get (codes "splits"));
  blocks = option_and_then (kept_in blocks_over block_in) (get (codes "blocks"));
}

-- what the members of a file of this version contain
unfoldable pub found_in : Version → Members → Found
found_in version ms = found_by (not (has_no_extra version ms)) (λ k. get_member k ms)

-- the value is an object, and `found` is what it contains
abbrev pub HasMembers : Version → Found → Data → Type 0
HasMembers version found d = (ms : Members) × (d ≡ object ms) × (found ≡ found_in version ms)

-- whether the value is an object, and what it contains
abbrev pub IsRoot : Version → Data → Bool → Found → Type 0
IsRoot version d true found = HasMembers version found d
IsRoot version d false found = as_object d ≡ None

-- the text of the key of a bounded list
abbrev pub IsBoundedKey : BoundedKey → List ℕ → Type 0
IsBoundedKey bounded.Blocks text = text ≡ codes "blocks"
IsBoundedKey bounded.Invariants text = text ≡ codes "invariants"
IsBoundedKey bounded.Splits text = text ≡ codes "splits"
IsBoundedKey bounded.Types text = text ≡ codes "types"

-- the text of the key of a list kept whole
abbrev pub IsWholeKey : WholeKey → List ℕ → Type 0
IsWholeKey whole.Edges text = text ≡ codes "edges"
IsWholeKey whole.Merges text = text ≡ codes "merges"
IsWholeKey whole.Partitions text = text ≡ codes "partitions"

-- the text of a key; of `Other`, any text that is no key of version 2
abbrev pub IsKey : Key → List ℕ → Type 0
IsKey (key.Bounded k) text = IsBoundedKey k text
IsKey (key.Whole k) text = IsWholeKey k text
IsKey key.Kinds text = text ≡ codes "kinds"
IsKey key.Version text = text ≡ codes "version"
IsKey key.Other text = list_any (bytes_eq text) (keys Two) ≡ false

-- whether files of the version name the kinds
abbrev pub names_kinds : Version → Bool
names_kinds One = false
names_kinds Two = true

-- whether files of the version have the key
abbrev pub has_key : Version → Key → Bool
has_key version (key.Bounded k) = true
has_key version (key.Whole k) = true
has_key version key.Kinds = names_kinds version
has_key version key.Version = true
has_key version key.Other = false

-- what is found after the key of a bounded list gets this value
abbrev pub with_bounded : BoundedKey → Data → Found → Found
with_bounded bounded.Blocks d f = record f { blocks = kept_in blocks_over block_in d }
with_bounded bounded.Invariants d f = record f { invariants = kept_in invariants_over listed_in d }
with_bounded bounded.Splits d f = record f { splits = kept_in splits_over split_in d }
with_bounded bounded.Types d f = record f { types = kept_in types_over as_str d }

-- what is found after the key of a list kept whole gets this value
abbrev pub with_whole : WholeKey → Data → Found → Found
with_whole whole.Edges d f = record f { edges = list_in edge_in d }
with_whole whole.Merges d f = record f { merges = list_in merge_in d }
with_whole whole.Partitions d f = record f { partitions = list_in partition_in d }

-- what is found after the key gets this value
abbrev pub with_field : Key → Data → Found → Found
with_field (key.Bounded k) d f = with_bounded k d f
with_field (key.Whole k) d f = with_whole k d f
with_field key.Kinds d f = record f { kinds = kinds_named d }
with_field key.Version d f = record f { version = whole_in d }
with_field key.Other d f = f

-- the kinds asked for; always three in version 1
abbrev pub kinds_from : Version → Option Kinds → Kinds
kinds_from One found = Three
kinds_from Two found = unwrap_or found Three

-- the model made from what was found; what is missing is empty
abbrev pub model_from : Version → Found → Model
model_from version f = record {
  types = unwrap_or f.types [];
  kinds = kinds_from version f.kinds;
  partitions = unwrap_or f.partitions [];
  edges = unwrap_or f.edges [];
  invariants = unwrap_or f.invariants [];
  splits = unwrap_or f.splits [];
  merges = unwrap_or f.merges [];
  blocks = unwrap_or f.blocks [];
}

-- the model of these types, kinds and partitions, and of the other parts that were found
abbrev pub with_others : List (List ℕ) → Kinds → List Partition → Found → Model
with_others ts kinds ps f = record {
  types = ts;
  kinds = kinds;
  partitions = ps;
  edges = unwrap_or f.edges [];
  invariants = unwrap_or f.invariants [];
  splits = unwrap_or f.splits [];
  merges = unwrap_or f.merges [];
  blocks = unwrap_or f.blocks [];
}

-- ---- the parts of what was found, each tested as in `Reading`

-- the version is right and there is no extra key, or the refusal
abbrev pub head_from : Version → Found → Result (Unit {0}) FileError
head_from version f = if_of version f.version >>= λ v. tested field.Extra (not f.has_extra) tt

-- the types, or their refusal
abbrev pub types_from : Version → Found → Result (List (List ℕ)) FileError
types_from version f = or_shape field.Types f.types >>= λ ts. tested field.Types (types_hold (max_types version) ts) ts

-- the kinds of invariants, or their refusal; always three in version 1
abbrev pub kinds_tested : Version → Found → Result Kinds FileError
kinds_tested One f = Ok Three
kinds_tested Two f = or_shape field.Kinds f.kinds

-- the partitions, for this number of types, or their refusal
abbrev pub partitions_from : ℕ → Found → Result (List Partition) FileError
partitions_from types f = or_shape field.Partitions f.partitions >>= λ ps. tested field.Partitions (partitions_hold types ps) ps

-- the edges, or their refusal
abbrev pub edges_from : (ℕ → Option ℕ) → Found → Result (List Edge) FileError
edges_from type f = or_shape field.Edges f.edges >>= λ es. tested field.Edges (edges_hold type es) es

-- the invariants, or their refusal
abbrev pub invariants_from : Kinds → ℕ → ℕ → Found → Result (List Listed) FileError
invariants_from kinds types partitions f = or_shape field.Invariants f.invariants >>= λ ls. tested field.Invariants (invariants_hold kinds types partitions ls) ls

-- the merges, or their refusal
abbrev pub merges_from : Found → Result (List Merge) FileError
merges_from f = or_shape field.Merges f.merges >>= λ ms. tested field.Merges (merges_hold ms) ms

-- the splits, or their refusal
abbrev pub splits_from : ℕ → Found → Result (List Split) FileError
splits_from invariants f = or_shape field.Splits f.splits >>= λ ss. tested field.Splits (splits_hold invariants ss) ss

-- the blocks, or their refusal
abbrev pub blocks_from : (ℕ → Option ℕ) → ℕ → List Split → Found → Result (List Block) FileError
blocks_from type invariants ss f = or_shape field.Blocks f.blocks >>= λ bs. tested field.Blocks (blocks_hold type invariants ss bs) bs

-- the model of these and the later parts, or the first refusal; `type` gives the type of a partition's id
abbrev pub after_partitions : (ℕ → Option ℕ) → List (List ℕ) → Kinds → List Partition → Found → Result Model FileError
after_partitions type ts kinds ps f =
    edges_from type f >>= λ es.
    invariants_from kinds (length ts) (length ps) f >>= λ ls. merges_from f >>= λ ms.
    splits_from (length ls) f >>= λ ss. blocks_from type (length ls) ss f >>= λ bs.
    Ok (record {
      types = ts;
      kinds = kinds;
      partitions = ps;
      edges = es;
      invariants = ls;
      splits = ss;
      merges = ms;
      blocks = bs;
    })

-- the model of the parts, or the first refusal
abbrev pub parts_from : Version → Found → Result Model FileError
parts_from version f =
    types_from version f >>= λ ts. kinds_tested version f >>= λ kinds.
    partitions_from (length ts) f >>= λ ps. after_partitions (type_of ps) ts kinds ps f

-- an answer, as the view shows it, is the expected reading, or out of memory
abbrev pub GivesBy : {S A : Type 0} → (S → A) → Result S FileError → Result A FileError → Type 0
GivesBy view (Ok x) read = read ≡ Ok (view x)
GivesBy view (Err e) read = Fails e read
