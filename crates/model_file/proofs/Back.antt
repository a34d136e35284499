-- The value that was made of an entry is read as that entry.
use Rattle.std.proofs.Common.{◌≡◌, ℕ, ◌+◌, ◌-◌, ◌^◌, ◌<◌, ◌≤◌, List, [], ◌∷◌, map, Option, Some, refl, arith, lt-ltb, le-leb}
use Rattle.std.specs.List.{AllByRecursion}
use Rattle.serde_json.specs.Data.{Data, string}
use Rattle.serde_json.specs.View.{items_of}
use Rattle.invariants.specs.declared.Kind.{Kind}
use Rattle.invariants.specs.declared.Kind.TheVariants.{AF, NF, AP, IB}
use Rattle.invariants.specs.declared.Kinds.{Kinds}
use Rattle.invariants.specs.declared.Kinds.TheVariants.{Three, Four}
use Rattle.invariants.specs.declared.records.Partition.{Partition}
use Rattle.invariants.specs.declared.records.Edge.{Edge}
use Rattle.invariants.specs.declared.records.Listed.{Listed}
use Rattle.invariants.specs.declared.records.Merge.{Merge}
use Rattle.invariants.specs.declared.records.Split.{Split}
use Rattle.invariants.specs.declared.records.Block.{Block}
use Rattle.invariants.specs.Labels.{digit_of}
use Rattle.model_file.specs.Tree.{number_data, array_of, path_data, partition_data, edge_data, kind_text, kinds_data, listed_data, merge_data, split_data, block_data}
use Rattle.model_file.specs.Entries.{number_below, number_in, each, list_in, two_in, three_in, four_in, kind_in, kinds_named, labels_of, labels_in, path_in, partition_in, edge_in, invariant_in, listed_in, merge_in, split_in, block_in}

-- where each entry is read back from its value, so is a row of them
pub each-back : {A : Type 0} (f : Data → Option A) (g : A → Data) (P : A → Type 0) → ((x : A) → P x → f (g x) ≡ Some x) → (xs : List A) → AllByRecursion P xs → each f (items_of (map g xs)) ≡ Some xs
each-back f g P back [] h = refl
each-back f g P back (x ∷ xs) h = rw (back x h.0, each-back f g P back xs h.1) refl

-- where each entry is read back from its value, so is a list of them from its array
pub list-back : {A : Type 0} (f : Data → Option A) (g : A → Data) (P : A → Type 0) → ((x : A) → P x → f (g x) ≡ Some x) → (xs : List A) → AllByRecursion P xs → list_in f (array_of (map g xs)) ≡ Some xs
unfolding list_in
list-back f g P back xs h = each-back f g P back xs h

number-back : (limit n : ℕ) → n < limit → number_below limit (number_data n) ≡ Some n
unfolding number_below
number-back limit n small = rw (lt-ltb n limit small) refl

label-back : (label : ℕ) → label ≤ 7 → 48 + label - 48 ≡ label
label-back label small = omega arith

labels-back : (labels : List ℕ) → AllByRecursion (λ label. label ≤ 7) labels → labels_of (map digit_of labels) ≡ Some labels
labels-back [] h = refl
labels-back (label ∷ labels) h =
    let low : 48 ≤ 48 + label = omega arith in
    let high : 48 + label ≤ 55 = omega (arith, h.0) in
    rw (le-leb 48 (48 + label) low, le-leb (48 + label) 55 high, label-back label h.0, labels-back labels h.1) refl

kind-back : (kind : Kind) → kind_in (string (kind_text kind)) ≡ Some kind
unfolding kind_in
kind-back AF = refl
kind-back NF = refl
kind-back AP = refl
kind-back IB = refl

-- kinds are read back from the array of their names
pub kinds-named : (kinds : Kinds) → kinds_named (kinds_data kinds) ≡ Some kinds
unfolding kinds_named list_in kind_in
kinds-named Three = refl
kinds-named Four = refl

-- the number fits 32 bits
abbrev pub IsSmall : ℕ → Type 0
IsSmall n = n < 2 ^ 32

-- the number fits 16 bits
abbrev pub IsShort : ℕ → Type 0
IsShort n = n < 2 ^ 16

path-back : (path : List ℕ) → AllByRecursion IsSmall path → path_in (path_data path) ≡ Some path
unfolding path_in
path-back path h = list-back number_in number_data IsSmall (λ n small. number-back (2 ^ 32) n small) path h

-- the numbers of a partition fit their fields
pub record FitsPartition (p : Partition) : Type 0 where
  pub id : IsSmall p.id
  pub typ : IsShort p.typ
  pub count : IsSmall p.count

-- the numbers of an edge fit their fields
pub record FitsEdge (e : Edge) : Type 0 where
  pub from : IsSmall e.from
  pub to : IsSmall e.to
  pub count : IsSmall e.count

-- the types and the labels of a listed invariant fit their fields
pub record FitsListed (l : Listed) : Type 0 where
  pub a : IsShort l.inv.a
  pub b : IsShort l.inv.b
  pub labels : AllByRecursion (λ label. label ≤ 7) l.labels

-- the ids of a merge fit their fields
pub record FitsMerge (m : Merge) : Type 0 where
  pub p : IsSmall m.p
  pub q : IsSmall m.q

-- the numbers of a split and of its path fit their fields
pub record FitsSplit (s : Split) : Type 0 where
  pub inv : IsSmall s.inv
  pub place : IsSmall s.place
  pub path : AllByRecursion IsSmall s.path

-- the numbers of a block and of its path fit their fields
pub record FitsBlock (b : Block) : Type 0 where
  pub p : IsSmall b.p
  pub q : IsSmall b.q
  pub inv : IsSmall b.inv
  pub path : AllByRecursion IsSmall b.path

-- a partition is read back from its value
pub partition-back : (p : Partition) → FitsPartition p → partition_in (partition_data p) ≡ Some p
unfolding partition_in three_in
partition-back p h = rw (number-back (2 ^ 32) p.id h.id, number-back (2 ^ 16) p.typ h.typ, number-back (2 ^ 32) p.count h.count) refl

-- an edge is read back from its value
pub edge-back : (e : Edge) → FitsEdge e → edge_in (edge_data e) ≡ Some e
unfolding edge_in three_in
edge-back e h = rw (number-back (2 ^ 32) e.from h.from, number-back (2 ^ 32) e.to h.to, number-back (2 ^ 32) e.count h.count) refl

-- a merge is read back from its value
pub merge-back : (m : Merge) → FitsMerge m → merge_in (merge_data m) ≡ Some m
unfolding merge_in two_in
merge-back m h = rw (number-back (2 ^ 32) m.p h.p, number-back (2 ^ 32) m.q h.q) refl

-- a listed invariant is read back from its value
pub listed-back : (l : Listed) → FitsListed l → listed_in (listed_data l) ≡ Some l
unfolding listed_in four_in invariant_in labels_in
listed-back l h = rw (kind-back l.inv.kind, number-back (2 ^ 16) l.inv.a h.a, number-back (2 ^ 16) l.inv.b h.b, labels-back l.labels h.labels) refl

-- a split is read back from its value
pub split-back : (s : Split) → FitsSplit s → split_in (split_data s) ≡ Some s
unfolding split_in three_in
split-back s h = rw (number-back (2 ^ 32) s.inv h.inv, number-back (2 ^ 32) s.place h.place, path-back s.path h.path) refl

-- a block is read back from its value
pub block-back : (b : Block) → FitsBlock b → block_in (block_data b) ≡ Some b
unfolding block_in four_in
block-back b h = rw (number-back (2 ^ 32) b.p h.p, number-back (2 ^ 32) b.q h.q, number-back (2 ^ 32) b.inv h.inv, path-back b.path h.path) refl
