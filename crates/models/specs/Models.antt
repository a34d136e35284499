-- What a model says of a graph and of labels, and the model of a log.
use Rattle.std.specs.Prelude.{◌≡◌, ◌↔◌, ◌==◌, ◌&&◌, ◌||◌, ℕ, zero, suc, ◌/◌, ◌%◌, ◌<◌, Bool, true, false, if◌then◌else◌, List, [], ◌∷◌, map, length}
use Rattle.std.specs.List.{AllByRecursion}
use Rattle.traces.specs.Words.{Log}
use Rattle.invariants.specs.declared.Invariant.{Invariant}
use Rattle.invariants.specs.declared.Kinds.{Kinds}
use Rattle.invariants.specs.declared.records.Partition.{Partition}
use Rattle.invariants.specs.declared.records.Edge.{Edge}
use Rattle.invariants.specs.declared.records.Listed.{Listed}
use Rattle.invariants.specs.declared.records.Model.{Model}
use Rattle.invariants.specs.Mined.{mined_for}
use Rattle.invariants.specs.Labels.{IsLabel}
use Rattle.partition_model.specs.Graphs.{Graph}
use Rattle.partition_model.specs.Assignments.{Assignment, with_ends, is_live, G}
use Rattle.partition_model.specs.Labels.{IsInductive, Reached}
use Rattle.partition_model.specs.Listings.{ArePartitions, AreEdges}
use Rattle.partition_model.specs.Refinement.{IsRefined}
use Rattle.partition_model.specs.Coarsening.{Coarsens, AreBlocks}
use Rattle.model_shape.specs.Shapes.{listed_type, is_listed, listing_of}

-- what inference needs of a log: the kinds of invariants to mine, the texts of its types, and its words without their ends
pub record TypedWords : Type 0 where
  pub kinds : Kinds
  pub types : List (List ℕ)
  pub words : List (List ℕ)

-- the same of a log of traces, with these kinds to mine
abbrev pub typed_words : Kinds → Log → TypedWords
typed_words kinds log = record { kinds = kinds; types = log.types; words = map (λ trace. trace.events) log.traces }

-- the invariants of these kinds that hold of every word
abbrev pub mined_of : TypedWords → List Invariant
mined_of log = mined_for log.kinds (length log.types) (map with_ends log.words)

-- whether there is an edge from p to q
abbrev pub has_edge : ℕ → ℕ → List Edge → Bool
has_edge p q [] = false
has_edge p q (x ∷ xs) = (x.from == p && x.to == q) || has_edge p q xs

-- the graph of the model: its partitions with its edges
abbrev pub graph_of : Model → Graph
graph_of m =
    record {
      typ = λ p. listed_type p m.partitions;
      edge = λ p q. has_edge p q m.edges;
      listed = λ p. is_listed p m.partitions;
    }

-- whether the state is in the set with this number: 1 is for the state 0, 2 for the state 1, and 4 for the state 2
abbrev pub has_state : ℕ → ℕ → Bool
has_state number zero = number % 2 == 1
has_state number (suc zero) = (number / 2) % 2 == 1
has_state number (suc (suc zero)) = (number / 4) % 2 == 1
has_state number (suc (suc (suc s))) = false

-- the label at the place of the id, or 0 if there is none
abbrev pub label_at : ℕ → List Partition → List ℕ → ℕ
label_at p [] labels = 0
label_at p (x ∷ xs) [] = 0
label_at p (x ∷ xs) (label ∷ labels) = if x.id == p then label else label_at p xs labels

-- the state is in the label of the id
abbrev pub IsInLabel : List Partition → List ℕ → ℕ → ℕ → Type 0
IsInLabel partitions labels p s = has_state (label_at p partitions labels) s ≡ true

-- the labels of a listed invariant are inductive
abbrev pub IsLabelled : Model → Listed → Type 0
IsLabelled m l = IsInductive l.inv (graph_of m) (IsInLabel m.partitions l.labels)

-- a label for each partition: the set of the states that are reached there
pub record AreReached (inv : Invariant) (h : Assignment) (partitions : List Partition)
    (labels : List ℕ) : Type 0 where
  pub count : length labels ≡ length partitions
  pub each : AllByRecursion IsLabel labels
  pub states : (p s : ℕ) → is_live h p ≡ true → s < 3
      → IsInLabel partitions labels p s ↔ Reached inv (G h) p s

-- the model of a log: the whole run of refinement and then that of coarsening, the graph at their end with the
-- reached states, and the blocks that show why no further merge is made
pub record IsModelOf (m : Model) (log : TypedWords) : Type 0 where
  pub types : m.types ≡ log.types
  pub kinds : m.kinds ≡ log.kinds
  pub refined : Assignment
  pub end : Assignment
  pub splits : IsRefined (mined_of log) (length log.types) log.words m.splits refined
  pub merges : Coarsens (mined_of log) refined m.merges end
  pub partitions : ArePartitions m.partitions end
  pub edges : AreEdges m.edges end
  pub listing : listing_of m ≡ mined_of log
  pub labels : AllByRecursion (λ l. AreReached l.inv end m.partitions l.labels) m.invariants
  pub blocks : AreBlocks (mined_of log) (G end) m.blocks
