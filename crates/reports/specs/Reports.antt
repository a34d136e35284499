-- The texts of invariants and of graphs.
use Rattle.std.specs.Prelude.{ℕ, ◌==◌, List, [], ◌∷◌, ◌++◌, map, codes, decimal, slice_get, unwrap_or, Option, Some, None, if◌then◌else◌, ◌-◌}
use Rattle.std.specs.Option.{option_map, option_or}
use Rattle.std.specs.Ordering.{nat_cmp}
use Rattle.std.specs.BTreeMap.{BTreeMap, get_by}
use Rattle.std.specs.List.{flat_map, find}
use Rattle.limits.specs.declared.TheConstants.{INITIAL, TERMINAL, FIRST_TYPE}
use Rattle.serde_json.specs.Data.{string}
use Rattle.serde_json.specs.Written.{compact_text}
use Rattle.invariants.specs.declared.Kind.{Kind}
use Rattle.invariants.specs.declared.Kind.TheVariants.{AF, NF, AP, IB}
use Rattle.invariants.specs.declared.Invariant.{Invariant}
use Rattle.invariants.specs.declared.records.Partition.{Partition}
use Rattle.invariants.specs.declared.records.Edge.{Edge}

-- the text of each type as a JSON string
abbrev pub json_texts : List (List ℕ) → List (List ℕ)
json_texts types = map (λ text. compact_text (string text)) types

-- a type's name: its text as a JSON string, or the name of an end
abbrev pub name_of : List (List ℕ) → ℕ → List ℕ
name_of types n =
    if n == INITIAL then codes "INITIAL"
    else if n == TERMINAL then codes "TERMINAL"
    else unwrap_or (option_map (λ text. compact_text (string text)) (slice_get types (n - FIRST_TYPE))) []

-- the text between the two types
abbrev pub verb_of : Kind → List ℕ
verb_of AF = codes " AlwaysFollowedBy "
verb_of NF = codes " NeverFollowedBy "
verb_of AP = codes " AlwaysPrecedes "
verb_of IB = codes " InterruptedBy "

-- the line for an invariant
abbrev pub invariant_line : List (List ℕ) → Invariant → List ℕ
invariant_line types i = name_of types i.a ++ verb_of i.kind ++ name_of types i.b ++ 10 ∷ []

-- one line per invariant, in order
abbrev pub invariant_report : List (List ℕ) → List Invariant → List ℕ
invariant_report types invariants = flat_map (invariant_line types) invariants

-- the partition with this id
abbrev pub partition_with : List Partition → ℕ → Option Partition
partition_with partitions id = find (λ p. p.id == id) partitions

-- the partition recorded under this id
abbrev pub found_at : BTreeMap ℕ Partition → ℕ → Option Partition
found_at places id = get_by (nat_cmp id) places

-- the partition already found under the id, or else this one if it has the id
abbrev pub or_noted : Partition → ℕ → Option Partition → Option Partition
or_noted p id found = option_or found (if p.id == id then Some p else None)

-- how a partition is shown: its type's name and its id; an end is shown by its name only
abbrev pub shown_as : List (List ℕ) → Option Partition → ℕ → List ℕ
shown_as types found id =
    if id == INITIAL then codes "INITIAL"
    else if id == TERMINAL then codes "TERMINAL"
    else unwrap_or (option_map (λ p. name_of types p.typ) found) [] ++ codes "@" ++ decimal id

-- how many events a partition has, or 0 if there is none
abbrev pub count_of : Option Partition → ℕ
count_of found = unwrap_or (option_map (λ p. p.count) found) 0

-- the line for an edge between these partitions: source, target, count, and the count of the source partition
abbrev pub edge_text : List (List ℕ) → Edge → Option Partition → Option Partition → List ℕ
edge_text types e from to =
    shown_as types from e.from ++ codes " -> " ++ shown_as types to e.to
    ++ codes ": " ++ decimal e.count ++ codes " of " ++ decimal (count_of from) ++ 10 ∷ []

-- the line for an edge; its partitions are found by their ids
abbrev pub edge_line : List (List ℕ) → List Partition → Edge → List ℕ
edge_line types partitions e =
    edge_text types e (partition_with partitions e.from) (partition_with partitions e.to)

-- one line per edge, in order
abbrev pub graph_report : List (List ℕ) → List Partition → List Edge → List ℕ
graph_report types partitions edges = flat_map (edge_line types partitions) edges
