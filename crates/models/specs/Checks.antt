-- When a model is valid for a log, and the first part in which it fails.
use Rattle.std.specs.Prelude.{◌≡◌, ◌≢◌, ◌↔◌, ℕ, zero, suc, ◌<◌, List, [], ◌∷◌, map, length, slice_get, Some, Contains}
use Rattle.std.specs.List.{AllByRecursion}
use Rattle.invariants.specs.declared.Invariant.{Invariant}
use Rattle.invariants.specs.declared.records.Listed.{Listed}
use Rattle.invariants.specs.declared.records.Block.{Block}
use Rattle.invariants.specs.declared.records.Model.{Model}
use Rattle.invariants.specs.Holds.{Holds}
use Rattle.invariants.specs.Candidates.{candidates_for}
use Rattle.invariants.specs.Mined.{IsListed}
use Rattle.partition_model.specs.Graphs.{Accepts, Breaks, IsPath, Merged, word}
use Rattle.partition_model.specs.Assignments.{with_ends}
use Rattle.partition_model.specs.Refinement.{SatisfiesAll}
use Rattle.partition_model.specs.Coarsening.{IsPair, PairBefore}
use Rattle.models.specs.declared.parts.Part.{Part}
use Rattle.models.specs.declared.parts.Part.TheVariants as part
use Rattle.models.specs.Models.{TypedWords, mined_of, graph_of, IsLabelled}
use Rattle.model_shape.specs.Shapes.{listing_of}

-- a block of the pair names a listed invariant, and its path breaks it in the merged graph
pub record KeepsApart (m : Model) (p q : ℕ) (b : Block) (l : Listed) : Type 0 where
  pub there : Contains m.blocks b
  pub lower : b.p ≡ p
  pub higher : b.q ≡ q
  pub names : slice_get m.invariants b.inv ≡ Some l
  pub breaks : Breaks (Merged (graph_of m) p q) l.inv b.path

-- some block keeps the pair apart
abbrev pub IsBlocked : Model → ℕ → ℕ → Type 0
IsBlocked m p q = (b : Block) × (l : Listed) × KeepsApart m p q b l

-- the word, between its ends, is that of a path of the model
abbrev pub IsAccepted : Model → List ℕ → Type 0
IsAccepted m w = Accepts (graph_of m) (with_ends w)

-- the model has the types and the invariants of the log, a path for each word, inductive labels, and a block for each pair of one type
pub record IsValid (m : Model) (log : TypedWords) : Type 0 where
  pub types : m.types ≡ log.types
  pub listing : listing_of m ≡ mined_of log
  pub traces : AllByRecursion (IsAccepted m) log.words
  pub labels : AllByRecursion (IsLabelled m) m.invariants
  pub blocks : (p q : ℕ) → IsPair (graph_of m) p q → IsBlocked m p q

-- the place k is the first at which the property fails
abbrev pub IsFirstFailure : {X : Type 0} → (X → Type 0) → List X → ℕ → Type 0
IsFirstFailure P [] k = ⊥
IsFirstFailure P (x ∷ xs) zero = P x → ⊥
IsFirstFailure P (x ∷ xs) (suc k) = P x × IsFirstFailure P xs k

-- k is the first place at which the lists differ, or the length of the shorter one if it is a prefix
abbrev pub DiffersAt : List Invariant → List Invariant → ℕ → Type 0
DiffersAt [] [] k = ⊥
DiffersAt [] (y ∷ ys) k = k ≡ 0
DiffersAt (x ∷ xs) [] k = k ≡ 0
DiffersAt (x ∷ xs) (y ∷ ys) zero = x ≢ y
DiffersAt (x ∷ xs) (y ∷ ys) (suc k) = (x ≡ y) × DiffersAt xs ys k

-- the parts before this one hold, and this one fails, first at the number or the pair that it names
abbrev pub IsFirstPart : Model → TypedWords → Part → Type 0
IsFirstPart m log part.Types = m.types ≢ log.types
IsFirstPart m log (part.Listing k) =
    (m.types ≡ log.types) × DiffersAt (listing_of m) (mined_of log) k
IsFirstPart m log (part.Trace t) =
    (m.types ≡ log.types) × (listing_of m ≡ mined_of log)
    × IsFirstFailure (IsAccepted m) log.words t
IsFirstPart m log (part.Label i) =
    (m.types ≡ log.types) × (listing_of m ≡ mined_of log) × AllByRecursion (IsAccepted m) log.words
    × IsFirstFailure (IsLabelled m) m.invariants i
IsFirstPart m log (part.Block p q) =
    (m.types ≡ log.types) × (listing_of m ≡ mined_of log) × AllByRecursion (IsAccepted m) log.words
    × AllByRecursion (IsLabelled m) m.invariants
    × IsPair (graph_of m) p q × (IsBlocked m p q → ⊥)
    × ((r s : ℕ) → IsPair (graph_of m) r s → PairBefore r s p q → IsBlocked m r s)

-- what a valid model promises about the log, by places
pub record Promises (m : Model) (log : TypedWords) : Type 0 where
  -- its types are those of the log
  pub types : m.types ≡ log.types
  -- it lists exactly the candidates of the log's kinds that hold, by places, of every word
  pub listed : (inv : Invariant)
      → Contains (listing_of m) inv ↔ IsListed log.kinds (length log.types) (map with_ends log.words) inv
  -- in the order of the candidates, none twice
  pub order : (j k i n : ℕ) (first second : Invariant)
      → slice_get (listing_of m) j ≡ Some first → slice_get (listing_of m) k ≡ Some second
      → slice_get (candidates_for log.kinds (length log.types)) i ≡ Some first
      → slice_get (candidates_for log.kinds (length log.types)) n ≡ Some second
      → j < k → i < n
  -- each word is the word of a path
  pub accepted : (w : List ℕ) → Contains log.words w
      → (path : List ℕ) × IsPath (graph_of m) path × (word (graph_of m) path ≡ with_ends w)
  -- each listed invariant holds of the word of each path
  pub satisfied : (inv : Invariant) (path : List ℕ) → Contains (listing_of m) inv
      → IsPath (graph_of m) path → Holds inv (word (graph_of m) path)
  -- for each pair of one type a block has a path of the merged graph, and its word breaks the listed invariant that the block names
  pub apart : (p q : ℕ) → IsPair (graph_of m) p q
      → (b : Block) × (l : Listed) × Contains m.blocks b × (b.p ≡ p) × (b.q ≡ q)
      × (slice_get m.invariants b.inv ≡ Some l)
      × IsPath (Merged (graph_of m) p q) b.path
      × (Holds l.inv (word (Merged (graph_of m) p q) b.path) → ⊥)
  -- so no two partitions of one type can be merged without loss
  pub no_merge : (p q : ℕ) → IsPair (graph_of m) p q
      → SatisfiesAll (Merged (graph_of m) p q) (listing_of m) → ⊥
