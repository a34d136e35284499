-- The seven rules of a well-shaped model as tests, one for each of its lists.
use Rattle.std.specs.Prelude.{◌↔◌, ℕ, ◌+◌, ◌-◌, ◌==◌, ◌&&◌, ◌||◌, Bool, true, false, not, List, [], ◌∷◌, drop, length, map, find, nat_lt, nat_le, IsTrue, Option, Some, None, is_some, option_map, unwrap_or, if◌then◌else◌}
use Rattle.std.specs.List.{list_all, list_any}
use Rattle.std.specs.Str.{bytes_eq}
use Rattle.limits.specs.declared.TheConstants.{INITIAL, TERMINAL, FIRST_TYPE, MAX_TYPES, MAX_EVENTS, MAX_EDGE_COUNT, MAX_TYPE_BYTES, MAX_PARTITIONS, MAX_PATH_NUMBERS}
use Rattle.invariants.specs.Candidates.{candidates_for}
use Rattle.invariants.specs.declared.Kind.{Kind}
use Rattle.invariants.specs.declared.Kind.TheVariants.{AF, NF, AP, IB}
use Rattle.invariants.specs.declared.Kinds.{Kinds}
use Rattle.invariants.specs.declared.Invariant.{Invariant}
use Rattle.invariants.specs.declared.records.Partition.{Partition}
use Rattle.invariants.specs.declared.records.Edge.{Edge}
use Rattle.invariants.specs.declared.records.Listed.{Listed}
use Rattle.invariants.specs.declared.records.Merge.{Merge}
use Rattle.invariants.specs.declared.records.Split.{Split}
use Rattle.invariants.specs.declared.records.Block.{Block}
use Rattle.invariants.specs.declared.records.Model.{Model}
use Rattle.model_file.specs.declared.shape.TheConstants.{ENDS}
use Rattle.model_shape.specs.Numbers.{split_numbers, block_numbers}
use Rattle.model_shape.specs.Shapes.{AreTypes, AreShapedPartitions, AreShapedEdges, AreShapedInvariants, AreShapedMerges, AreShapedSplits, AreShapedBlocks}

-- ---- ascending lists

-- whether a key comes after the one before it, if there is one
abbrev pub comes_after : {K : Type 0} → (K → K → Bool) → Option K → K → Bool
comes_after less None k = true
comes_after less (Some before) k = less before k

-- whether each key is above the one before it, and the first above the given one, if there is one
abbrev pub ascends_from : {K : Type 0} → (K → K → Bool) → Option K → List K → Bool
ascends_from less before [] = true
ascends_from less before (k ∷ ks) = comes_after less before k && ascends_from less (Some k) ks

-- whether each key is above the one before it
abbrev pub ascends : {K : Type 0} → (K → K → Bool) → List K → Bool
ascends less ks = ascends_from less None ks

-- pairs ordered by their first numbers, then by their second
abbrev pub pair_less : ℕ × ℕ → ℕ × ℕ → Bool
pair_less x y = nat_lt x.0 y.0 || ((x.0 == y.0) && nat_lt x.1 y.1)

-- ---- types

-- whether no text occurs twice in the list
abbrev pub are_distinct : List (List ℕ) → Bool
are_distinct [] = true
are_distinct (text ∷ texts) = not (list_any (bytes_eq text) texts) && are_distinct texts

-- a text of 1 to MAX_TYPE_BYTES bytes
abbrev pub type_holds : List ℕ → Bool
type_holds text = nat_le 1 (length text) && nat_le (length text) MAX_TYPE_BYTES

-- at most `limit` such types, all distinct
unfoldable pub types_hold : ℕ → List (List ℕ) → Bool
types_hold limit types =
    nat_le (length types) limit && (list_all type_holds types && are_distinct types)

-- ---- partitions

-- `[0,0,n]` and `[1,1,n]` come first, with the same n, at most the limit on events
abbrev pub ends_hold : List Partition → Bool
ends_hold [] = false
ends_hold (p ∷ []) = false
ends_hold (p ∷ q ∷ ps) =
    (p.id == INITIAL) && ((p.typ == INITIAL) && ((q.id == TERMINAL) && ((q.typ == TERMINAL)
    && ((p.count == q.count) && nat_le p.count MAX_EVENTS))))

-- any other partition: an id below the limit, the number of a type, and a count from 1 to the limit on events
abbrev pub partition_holds : ℕ → Partition → Bool
partition_holds types p =
    nat_lt p.id MAX_PARTITIONS && (nat_le FIRST_TYPE p.typ && (nat_lt p.typ (types + FIRST_TYPE)
    && (nat_le 1 p.count && nat_le p.count MAX_EVENTS)))

-- at most as many partitions as the limit: the two ends first, then the others; the ids ascend
unfoldable pub partitions_hold : ℕ → List Partition → Bool
partitions_hold types ps =
    nat_le (length ps) MAX_PARTITIONS && (ends_hold ps
    && (list_all (partition_holds types) (drop ENDS ps) && ascends nat_lt (map (λ p. p.id) ps)))

-- the type of a listed partition, by its id
abbrev pub type_of : List Partition → ℕ → Option ℕ
type_of ps id = option_map (λ p. p.typ) (find (λ p. p.id == id) ps)

-- ---- edges

-- both ids are listed, no edge leaves TERMINAL or enters INITIAL, and the count is from 1 to its limit
abbrev pub edge_holds : (ℕ → Option ℕ) → Edge → Bool
edge_holds type e =
    is_some (type e.from)
    && (is_some (type e.to) && (not (e.from == TERMINAL) && (not (e.to == INITIAL)
    && (nat_le 1 e.count && nat_le e.count MAX_EDGE_COUNT))))

-- such edges, ascending by source and then by target; `type` gives the type of a listed partition
unfoldable pub edges_hold : (ℕ → Option ℕ) → List Edge → Bool
edges_hold type es =
    list_all (edge_holds type) es && ascends pair_less (map (λ e. (e.from, e.to)) es)

-- ---- invariants

-- whether two kinds are the same
abbrev pub same_kind : Kind → Kind → Bool
same_kind AF AF = true
same_kind AF NF = false
same_kind AF AP = false
same_kind AF IB = false
same_kind NF AF = false
same_kind NF NF = true
same_kind NF AP = false
same_kind NF IB = false
same_kind AP AF = false
same_kind AP NF = false
same_kind AP AP = true
same_kind AP IB = false
same_kind IB AF = false
same_kind IB NF = false
same_kind IB AP = false
same_kind IB IB = true

-- whether two invariants are the same
abbrev pub same_invariant : Invariant → Invariant → Bool
same_invariant i j = same_kind i.kind j.kind && ((i.a == j.a) && (i.b == j.b))

-- the place of an invariant in a list, if it is there
abbrev pub place_in : Invariant → List Invariant → Option ℕ
place_in i [] = None
place_in i (c ∷ cs) = if same_invariant i c then Some 0 else option_map (λ k. k + 1) (place_in i cs)

-- its place among the candidates of these kinds for this number of types
unfoldable pub place_of : Kinds → ℕ → Invariant → Option ℕ
place_of kinds types i = place_in i (candidates_for kinds types)

-- a candidate, with a label from 0 to 7 for each partition
abbrev pub listed_holds : Kinds → ℕ → ℕ → Listed → Bool
listed_holds kinds types partitions l =
    is_some (place_of kinds types l.inv)
    && ((length l.labels == partitions) && list_all (λ label. nat_le label 7) l.labels)

-- such invariants, in the order of the candidates
unfoldable pub invariants_hold : Kinds → ℕ → ℕ → List Listed → Bool
invariants_hold kinds types partitions ls =
    list_all (listed_holds kinds types partitions) ls
    && ascends nat_lt (map (λ l. unwrap_or (place_of kinds types l.inv) 0) ls)

-- ---- merges

-- a lower and a higher id, both below the limit
abbrev pub merge_holds : Merge → Bool
merge_holds m = nat_lt m.p m.q && nat_lt m.q MAX_PARTITIONS

-- at most as many such merges as there are ids beside the two ends
unfoldable pub merges_hold : List Merge → Bool
merges_hold ms = nat_le (length ms + FIRST_TYPE) MAX_PARTITIONS && list_all merge_holds ms

-- ---- paths

-- all ids are below the limit
abbrev pub path_holds : List ℕ → Bool
path_holds path = list_all (λ id. nat_lt id MAX_PARTITIONS) path

-- the room left after n numbers, if there is room for them
abbrev pub room_left : ℕ → ℕ → Option ℕ
room_left room n = if nat_le n room then Some (room - n) else None

-- ---- splits

-- the number of a listed invariant, a path of ids below the limit, and a place in it
abbrev pub split_holds : ℕ → Split → Bool
split_holds invariants s =
    nat_lt s.inv invariants && (nat_lt s.place (length s.path) && path_holds s.path)

-- at most as many such splits as there are ids beside the two ends; their paths keep the limit on numbers
unfoldable pub splits_hold : ℕ → List Split → Bool
splits_hold invariants ss =
    nat_le (length ss + FIRST_TYPE) MAX_PARTITIONS
    && (list_all (split_holds invariants) ss && nat_le (split_numbers ss) MAX_PATH_NUMBERS)

-- ---- blocks

-- both are present and equal
abbrev pub are_one : Option ℕ → Option ℕ → Bool
are_one None t = false
are_one (Some s) None = false
are_one (Some s) (Some t) = s == t

-- a lower and a higher id of listed partitions of one type, the number of a listed invariant, and a path of ids below
-- the limit
abbrev pub block_holds : (ℕ → Option ℕ) → ℕ → Block → Bool
block_holds type invariants b =
    nat_lt b.p b.q
    && (are_one (type b.p) (type b.q) && (nat_lt b.inv invariants && path_holds b.path))

-- such blocks, ascending by their two ids; the paths of splits and blocks together keep the limit on numbers
unfoldable pub blocks_hold : (ℕ → Option ℕ) → ℕ → List Split → List Block → Bool
blocks_hold type invariants ss bs =
    list_all (block_holds type invariants) bs
    && (ascends pair_less (map (λ b. (b.p, b.q)) bs)
    && nat_le (split_numbers ss + block_numbers bs) MAX_PATH_NUMBERS)

-- ---- models

-- the rules after those of types and partitions; `type` gives the type of a listed partition
abbrev pub others_hold : (ℕ → Option ℕ) → Model → Bool
others_hold type m =
    edges_hold type m.edges
    && (invariants_hold m.kinds (length m.types) (length m.partitions) m.invariants
    && (merges_hold m.merges
    && (splits_hold (length m.invariants) m.splits
    && blocks_hold type (length m.invariants) m.splits m.blocks)))

-- the model passes all seven tests
pub record PassesRules (m : Model) : Type 0 where
  pub types : IsTrue (types_hold MAX_TYPES m.types)
  pub partitions : IsTrue (partitions_hold (length m.types) m.partitions)
  pub edges : IsTrue (edges_hold (type_of m.partitions) m.edges)
  pub invariants : IsTrue (invariants_hold m.kinds (length m.types) (length m.partitions) m.invariants)
  pub merges : IsTrue (merges_hold m.merges)
  pub splits : IsTrue (splits_hold (length m.invariants) m.splits)
  pub blocks : IsTrue (blocks_hold (type_of m.partitions) (length m.invariants) m.splits m.blocks)

-- each test is passed exactly if the rule of a well-shaped model holds
pub record RulesTell : Type 0 where
  pub types : (ts : List (List ℕ)) → IsTrue (types_hold MAX_TYPES ts) ↔ AreTypes ts
  pub partitions : (types : ℕ) (ps : List Partition)
      → IsTrue (partitions_hold types ps) ↔ AreShapedPartitions types ps
  pub edges : (ps : List Partition) (es : List Edge)
      → IsTrue (edges_hold (type_of ps) es) ↔ AreShapedEdges ps es
  pub invariants : (kinds : Kinds) (types partitions : ℕ) (ls : List Listed)
      → IsTrue (invariants_hold kinds types partitions ls)
      ↔ AreShapedInvariants kinds types partitions ls
  pub merges : (ms : List Merge) → IsTrue (merges_hold ms) ↔ AreShapedMerges ms
  pub splits : (invariants : ℕ) (ss : List Split)
      → IsTrue (splits_hold invariants ss) ↔ AreShapedSplits invariants ss
  pub blocks : (invariants : ℕ) (ps : List Partition) (ss : List Split) (bs : List Block)
      → IsTrue (blocks_hold (type_of ps) invariants ss bs) ↔ AreShapedBlocks invariants ps ss bs
