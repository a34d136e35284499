-- JSON values read as the entries of a model.
use Rattle.std.specs.Prelude.{ℕ, ◌-◌, ◌^◌, ◌&&◌, List, [], ◌∷◌, codes, nat_lt, nat_le, if◌then◌else◌, Option, Some, None, option_and_then}
use Rattle.std.specs.Str.{bytes_eq}
use Rattle.serde_json.specs.Data.{Data, Items, no_items, item}
use Rattle.serde_json.specs.Find.{as_number, as_u64, as_str, as_array}
use Rattle.invariants.specs.declared.Kind.{Kind}
use Rattle.invariants.specs.declared.Kind.TheVariants.{AF, NF, AP, IB}
use Rattle.invariants.specs.declared.Kinds.{Kinds}
use Rattle.invariants.specs.declared.Kinds.TheVariants.{Three, Four}
use Rattle.invariants.specs.declared.Invariant.{Invariant}
use Rattle.invariants.specs.declared.records.Partition.{Partition}
use Rattle.invariants.specs.declared.records.Edge.{Edge}
use Rattle.invariants.specs.declared.records.Listed.{Listed}
use Rattle.invariants.specs.declared.records.Merge.{Merge}
use Rattle.invariants.specs.declared.records.Split.{Split}
use Rattle.invariants.specs.declared.records.Block.{Block}

-- f of the value, if there is one
infixl 10 ◌>>=◌
abbrev pub ◌>>=◌ : {A B : Type 0} → Option A → (A → Option B) → Option B
o >>= f = option_and_then f o

-- ---- numbers

-- the number, if it is below the limit
abbrev pub if_below : ℕ → ℕ → Option ℕ
if_below limit n = if nat_lt n limit then Some n else None

-- The value as a whole number below a limit. The limits are those of a model's fields; the rules of a well-shaped model
-- are stricter.
unfoldable pub number_below : ℕ → Data → Option ℕ
number_below limit d = do
  x ← as_number d
  n ← as_u64 x
  if_below limit n

-- an id, a count or a place
abbrev pub number_in : Data → Option ℕ
number_in = number_below (2 ^ 32)

-- the number of a type
abbrev pub type_in : Data → Option ℕ
type_in = number_below (2 ^ 16)

-- ---- arrays

-- the items read by f, if it reads every one
abbrev pub each : {A : Type 0} → (Data → Option A) → Items → Option (List A)
each f no_items = Some []
each f (item d ds) = f d >>= λ a. each f ds >>= λ rest. Some (a ∷ rest)

-- the items of an array read by f
unfoldable pub list_in : {A : Type 0} → (Data → Option A) → Data → Option (List A)
list_in f d = as_array d >>= each f

-- exactly two items
abbrev pub two : Items → Option (Data × Data)
two (item a (item b no_items)) = Some (a, b)
two _ = None

-- exactly three items
abbrev pub three : Items → Option (Data × Data × Data)
three (item a (item b (item c no_items))) = Some (a, b, c)
three _ = None

-- exactly four items
abbrev pub four : Items → Option (Data × Data × Data × Data)
four (item a (item b (item c (item d no_items)))) = Some (a, b, c, d)
four _ = None

-- the items of an array of exactly two
unfoldable pub two_in : Data → Option (Data × Data)
two_in d = as_array d >>= two

-- the items of an array of exactly three
unfoldable pub three_in : Data → Option (Data × Data × Data)
three_in d = as_array d >>= three

-- the items of an array of exactly four
unfoldable pub four_in : Data → Option (Data × Data × Data × Data)
four_in d = as_array d >>= four

-- ---- strings

-- the kind with this name
abbrev pub kind_named : List ℕ → Option Kind
kind_named text =
    if bytes_eq text (codes "AF") then Some AF
    else (if bytes_eq text (codes "NF") then Some NF
    else (if bytes_eq text (codes "AP") then Some AP
    else (if bytes_eq text (codes "IB") then Some IB else None)))

-- the kind whose name the value is
unfoldable pub kind_in : Data → Option Kind
kind_in d = do
  text ← as_str d
  kind_named text

-- the kinds, if they are the first three or all four, in order
abbrev pub kinds_from : List Kind → Option Kinds
kinds_from (AF ∷ NF ∷ AP ∷ []) = Some Three
kinds_from (AF ∷ NF ∷ AP ∷ IB ∷ []) = Some Four
kinds_from _ = None

-- the kinds whose names the value lists
unfoldable pub kinds_named : Data → Option Kinds
kinds_named d = list_in kind_in d >>= kinds_from

-- the label that a digit from `0` to `7` gives
abbrev pub label_of : ℕ → Option ℕ
label_of byte = if nat_le 48 byte && nat_le byte 55 then Some (byte - 48) else None

-- the labels of bytes, if all are such digits
abbrev pub labels_of : List ℕ → Option (List ℕ)
labels_of [] = Some []
labels_of (byte ∷ bytes) =
    label_of byte >>= λ label. labels_of bytes >>= λ rest. Some (label ∷ rest)

-- the labels of a string, if all its bytes are such digits
unfoldable pub labels_in : Data → Option (List ℕ)
labels_in d = do
  text ← as_str d
  labels_of text

-- ---- entries

-- a path, from the array of its ids
unfoldable pub path_in : Data → Option (List ℕ)
path_in d = list_in number_in d

-- `[id,type,count]`
unfoldable pub partition_in : Data → Option Partition
partition_in d = do
  row ← three_in d
  id ← number_in row.0
  typ ← type_in row.1
  count ← number_in row.2
  Some (record { id = id; typ = typ; count = count })

-- `[from,to,count]`
unfoldable pub edge_in : Data → Option Edge
edge_in d = do
  row ← three_in d
  from ← number_in row.0
  to ← number_in row.1
  count ← number_in row.2
  Some (record { from = from; to = to; count = count })

-- the first three entries of `[kind,a,b,labels]`
unfoldable pub invariant_in : Data → Data → Data → Option Invariant
invariant_in name first second = do
  kind ← kind_in name
  a ← type_in first
  b ← type_in second
  Some (record { kind = kind; a = a; b = b })

-- `[kind,a,b,labels]`
unfoldable pub listed_in : Data → Option Listed
listed_in d = do
  row ← four_in d
  inv ← invariant_in row.0 row.1 row.2
  labels ← labels_in row.3
  Some (record { inv = inv; labels = labels })

-- `[p,q]`
unfoldable pub merge_in : Data → Option Merge
merge_in d = do
  row ← two_in d
  p ← number_in row.0
  q ← number_in row.1
  Some (record { p = p; q = q })

-- `[inv,place,[path]]`
unfoldable pub split_in : Data → Option Split
split_in d = do
  row ← three_in d
  inv ← number_in row.0
  place ← number_in row.1
  path ← path_in row.2
  Some (record { inv = inv; place = place; path = path })

-- `[p,q,inv,[path]]`
unfoldable pub block_in : Data → Option Block
block_in d = do
  row ← four_in d
  p ← number_in row.0
  q ← number_in row.1
  inv ← number_in row.2
  path ← path_in row.3
  Some (record { p = p; q = q; inv = inv; path = path })
