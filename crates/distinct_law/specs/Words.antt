-- Logs with the same words, the path that a word takes, and the counts that paths give.
use Rattle.std.specs.Prelude.{ℕ, ◌≡◌, ◌==◌, ◌↔◌, List, [], ◌∷◌, map, sum_by, count_by, Contains}
use Rattle.std.specs.Str.{bytes_eq}
use Rattle.invariants.specs.declared.records.Partition.{Partition}
use Rattle.invariants.specs.declared.records.Edge.{Edge}
use Rattle.invariants.specs.declared.records.Model.{Model}
use Rattle.partition_model.specs.Assignments.{pairs, with_ends}
use Rattle.partition_model.specs.Listings.{parts_of}
use Rattle.models.specs.Models.{TypedWords}
use Rattle.models.specs.Histories.{replayed}

-- the logs have the same types and the same kinds to mine, and each word of the one is a word of the other
pub record HaveSameWords (few whole : TypedWords) : Type 0 where
  pub kinds : few.kinds ≡ whole.kinds
  pub types : few.types ≡ whole.types
  pub words : (w : List ℕ) → Contains few.words w ↔ Contains whole.words w

-- how often the word occurs among the words
abbrev pub times : List (List ℕ) → List ℕ → ℕ
times words w = count_by (λ v. bytes_eq v w) words

-- the ids of the word's events after the splits and the merges of the model
abbrev pub ids_by : Model → List ℕ → List ℕ
ids_by m w = parts_of (replayed m (record { kinds = m.kinds; types = m.types; words = w ∷ [] }))

-- the path that the word takes: these ids, between INITIAL and TERMINAL
abbrev pub path_by : Model → List ℕ → List ℕ
path_by m w = with_ends (ids_by m w)

-- how often the path visits the id
abbrev pub visits : ℕ → List ℕ → ℕ
visits p path = count_by (λ x. x == p) path

-- the model with the counts that the paths of these words give
abbrev pub counted_over : List (List ℕ) → Model → Model
counted_over words m =
    record m {
      partitions = map (λ (x : Partition). record x { count = sum_by (λ w. visits x.id (path_by m w)) words }) m.partitions;
      edges = map (λ (x : Edge). record x { count = sum_by (λ w. pairs x.from x.to (path_by m w)) words }) m.edges;
    }

-- the model with 0 for each count
abbrev pub without_counts : Model → Model
without_counts m =
    record m {
      partitions = map (λ (x : Partition). record x { count = 0 }) m.partitions;
      edges = map (λ (x : Edge). record x { count = 0 }) m.edges;
    }
