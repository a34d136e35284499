-- The JSON value of a model, and its text.
use Rattle.std.specs.Prelude.{ℕ, ◌+◌, List, [], ◌∷◌, map, codes}
use Rattle.serde_json.specs.Data.{unsigned, Data, number, string, array, object, Members, no_members, member}
use Rattle.serde_json.specs.View.{items_of}
use Rattle.serde_json.specs.Written.{compact_text}
use Rattle.invariants.specs.Labels.{digit_of}
use Rattle.invariants.specs.declared.Kind.{Kind}
use Rattle.invariants.specs.declared.Kind.TheVariants.{AF, NF, AP, IB}
use Rattle.invariants.specs.declared.Kinds.{Kinds}
use Rattle.invariants.specs.declared.Kinds.TheVariants.{Three, Four}
use Rattle.invariants.specs.declared.records.Partition.{Partition}
use Rattle.invariants.specs.declared.records.Edge.{Edge}
use Rattle.invariants.specs.declared.records.Listed.{Listed}
use Rattle.invariants.specs.declared.records.Merge.{Merge}
use Rattle.invariants.specs.declared.records.Split.{Split}
use Rattle.invariants.specs.declared.records.Block.{Block}
use Rattle.invariants.specs.declared.records.Model.{Model}
use Rattle.model_file.specs.declared.version.Version.{Version}
use Rattle.model_file.specs.declared.version.Version.TheVariants.{One, Two}

-- a whole number
abbrev pub number_data : ℕ → Data
number_data n = number (unsigned n)

-- an array of these values
abbrev pub array_of : List Data → Data
array_of ds = array (items_of ds)

-- a path, as the array of its ids
abbrev pub path_data : List ℕ → Data
path_data path = array_of (map number_data path)

-- `[id,type,count]`
abbrev pub partition_data : Partition → Data
partition_data p = array_of (number_data p.id ∷ number_data p.typ ∷ number_data p.count ∷ [])

-- `[from,to,count]`
abbrev pub edge_data : Edge → Data
edge_data e = array_of (number_data e.from ∷ number_data e.to ∷ number_data e.count ∷ [])

-- the name of a kind
abbrev pub kind_text : Kind → List ℕ
kind_text AF = codes "AF"
kind_text NF = codes "NF"
kind_text AP = codes "AP"
kind_text IB = codes "IB"

-- a kind, as its name
abbrev pub kind_data : Kind → Data
kind_data kind = string (kind_text kind)

-- the kinds in order
abbrev pub kinds_in_order : Kinds → List Kind
kinds_in_order Three = AF ∷ NF ∷ AP ∷ []
kinds_in_order Four = AF ∷ NF ∷ AP ∷ IB ∷ []

-- the kinds, as the array of their names
abbrev pub kinds_data : Kinds → Data
kinds_data kinds = array_of (map kind_data (kinds_in_order kinds))

-- `[kind,a,b,labels]`, with one digit per label
abbrev pub listed_data : Listed → Data
listed_data l =
    array_of (kind_data l.inv.kind ∷ number_data l.inv.a ∷ number_data l.inv.b
    ∷ string (map digit_of l.labels) ∷ [])

-- `[p,q]`
abbrev pub merge_data : Merge → Data
merge_data m = array_of (number_data m.p ∷ number_data m.q ∷ [])

-- `[inv,place,[path]]`
abbrev pub split_data : Split → Data
split_data s = array_of (number_data s.inv ∷ number_data s.place ∷ path_data s.path ∷ [])

-- `[p,q,inv,[path]]`
abbrev pub block_data : Block → Data
block_data b =
    array_of (number_data b.p ∷ number_data b.q ∷ number_data b.inv ∷ path_data b.path ∷ [])

-- the nine keys of a file of version 2, in the order of their bytes
abbrev pub members_in : Model → Members
members_in m =
    member (codes "blocks") (array_of (map block_data m.blocks))
    (member (codes "edges") (array_of (map edge_data m.edges))
    (member (codes "invariants") (array_of (map listed_data m.invariants))
    (member (codes "kinds") (kinds_data m.kinds)
    (member (codes "merges") (array_of (map merge_data m.merges))
    (member (codes "partitions") (array_of (map partition_data m.partitions))
    (member (codes "splits") (array_of (map split_data m.splits))
    (member (codes "types") (array_of (map string m.types))
    (member (codes "version") (number_data 2) no_members))))))))

-- the eight keys of a file of version 1, in the same order; it does not name the kinds
abbrev pub members_of_version_1 : Model → Members
members_of_version_1 m =
    member (codes "blocks") (array_of (map block_data m.blocks))
    (member (codes "edges") (array_of (map edge_data m.edges))
    (member (codes "invariants") (array_of (map listed_data m.invariants))
    (member (codes "merges") (array_of (map merge_data m.merges))
    (member (codes "partitions") (array_of (map partition_data m.partitions))
    (member (codes "splits") (array_of (map split_data m.splits))
    (member (codes "types") (array_of (map string m.types))
    (member (codes "version") (number_data 1) no_members)))))))

-- the keys of a file of a version with their values
abbrev pub members_as : Version → Model → Members
members_as One m = members_of_version_1 m
members_as Two m = members_in m

-- the JSON value of a model, in version 1
unfoldable pub tree_of_version_1 : Model → Data
tree_of_version_1 m = object (members_of_version_1 m)

-- the JSON value of a model, in version 2
unfoldable pub tree_of : Model → Data
tree_of m = object (members_in m)

-- the text of a model file: that of the value, without whitespace
abbrev pub file_text : Model → List ℕ
file_text m = compact_text (tree_of m)
