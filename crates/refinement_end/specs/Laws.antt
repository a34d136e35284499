-- What exists: least violations, next splits, and whole runs of refinement.
use Rattle.std.specs.Prelude.{◌≡◌, ◌↔◌, ◌⊎◌, ◌+◌, ℕ, ◌<◌, ◌≤◌, List, ◌++◌, length}
use Rattle.limits.specs.declared.TheConstants.{FIRST_TYPE}
use Rattle.invariants.specs.declared.Invariant.{Invariant}
use Rattle.invariants.specs.declared.records.Split.{Split}
use Rattle.partition_model.specs.Graphs.{Graph, IsFormed, Satisfies, Breaks, IsLeastViolation}
use Rattle.partition_model.specs.Assignments.{Assignment, G, IsTyped, events, by_type}
use Rattle.partition_model.specs.Refinement.{SatisfiesAll, IsNextSplit, Splits, Refines, after_split}
use Rattle.partition_model.specs.Laws.{AreTyped, HoldAll, IsRun, NamesRests, Divides, Keeps}
use Rattle.partition_bounds.specs.Laws.{IsBelow}

-- the graph has a least violation of the invariant
abbrev pub HasLeast : Graph → Invariant → Type 0
HasLeast g inv = (path : List ℕ) × IsLeastViolation g inv path

-- there is one if some path breaks the invariant
abbrev pub LeastExists : Type 0
LeastExists =
    (g : Graph) (inv : Invariant) (path : List ℕ) (n : ℕ) → IsFormed g → IsBelow n g → Breaks g inv path
    → HasLeast g inv

-- a graph satisfies an invariant, or it has a least violation of it
abbrev pub SatisfiedOrViolated : Type 0
SatisfiedOrViolated =
    (g : Graph) (inv : Invariant) (n : ℕ) → IsFormed g → IsBelow n g → Satisfies g inv ⊎ HasLeast g inv

-- there is a next split
abbrev pub HasNext : List Invariant → Assignment → Type 0
HasNext invs h = (s : Split) × IsNextSplit invs h s

-- the graph of an assignment satisfies each invariant of a list, or there is a next split
abbrev pub SatisfiedOrSplit : Type 0
SatisfiedOrSplit =
    (invs : List Invariant) (h : Assignment) → IsTyped h → SatisfiesAll (G h) invs ⊎ HasNext invs h

-- so there is a next split exactly if the graph does not satisfy them all
abbrev pub NextSplitExists : Type 0
NextSplitExists =
    (invs : List Invariant) (h : Assignment) → IsTyped h → HasNext invs h ↔ (SatisfiesAll (G h) invs → ⊥)

-- in a state of refinement the next split divides an id: both its parts have events, and the state stays one
abbrev pub NextSplitDivides : Type 0
NextSplitDivides =
    (invs : List Invariant) (words : List (List ℕ)) (h : Assignment) (n : ℕ) (s : Split)
    → IsRun words h n → FIRST_TYPE ≤ n → HoldAll words invs → IsNextSplit invs h s
    → Divides h s.path n × IsRun words (after_split n s h) (n + 1)

-- there is a whole run of refinement from this state
abbrev pub HasRun : List Invariant → Assignment → ℕ → Type 0
HasRun invs h n = (splits : List Split) × (end : Assignment) × Refines invs h n splits end

-- each state of refinement has one
abbrev pub RunsEnd : Type 0
RunsEnd =
    (invs : List Invariant) (words : List (List ℕ)) (h : Assignment) (n : ℕ)
    → IsRun words h n → FIRST_TYPE ≤ n → HoldAll words invs → HasRun invs h n

-- the splits are the only whole run of refinement of the words. Besides the two ends it has at most as many ids as
-- events, and as non-empty suffixes of the words. It ends with an assignment that keeps the words and the invariants.
pub record IsWholeRun (invs : List Invariant) (words : List (List ℕ)) (n : ℕ) (splits : List Split)
    (end : Assignment) : Type 0 where
  pub run : Refines invs (by_type words) n splits end
  pub alone : (others : List Split) (other : Assignment) → Refines invs (by_type words) n others other
      → (splits ≡ others) × (end ≡ other)
  pub few : n + length splits ≤ length (events end) + FIRST_TYPE
  pub rests : (names : List (List ℕ)) → NamesRests names end → n + length splits ≤ length names + FIRST_TYPE
  pub keeps : Keeps invs words end

-- there is one for the words of each log
abbrev pub RefinementEnds : Type 0
RefinementEnds =
    (invs : List Invariant) (words : List (List ℕ)) (n : ℕ) → AreTyped words n → HoldAll words invs
    → (splits : List Split) × (end : Assignment) × IsWholeRun invs words n splits end

-- any splits of a run of refinement are a prefix of the whole run
abbrev pub SplitsGoOn : Type 0
SplitsGoOn =
    (invs : List Invariant) (words : List (List ℕ)) (n : ℕ) (splits : List Split) (mid : Assignment)
    → AreTyped words n → HoldAll words invs → Splits invs (by_type words) n splits mid
    → (rest : List Split) × (end : Assignment) × IsWholeRun invs words n (splits ++ rest) end

-- each whole run of refinement of the words needs more ids than the limit
abbrev pub EachNeedsMore : ℕ → List Invariant → List (List ℕ) → ℕ → Type 0
EachNeedsMore limit invs words n =
    (splits : List Split) (end : Assignment) → Refines invs (by_type words) n splits end
    → limit < n + length splits

-- there is a whole run, and it needs more ids than the limit
abbrev pub RunNeedsMore : ℕ → List Invariant → List (List ℕ) → ℕ → Type 0
RunNeedsMore limit invs words n =
    (splits : List Split) × (end : Assignment) × IsWholeRun invs words n splits end
    × (limit < n + length splits)

-- the first splits of the run use as many ids as the limit, and there is a next one
abbrev pub StopsFull : ℕ → List Invariant → List (List ℕ) → ℕ → Type 0
StopsFull limit invs words n =
    (splits : List Split) × (mid : Assignment) × Splits invs (by_type words) n splits mid
    × (n + length splits ≡ limit) × HasNext invs mid

-- each whole run needs more ids than the limit exactly if there is one and it does
abbrev pub RefusalsTell : Type 0
RefusalsTell =
    (limit : ℕ) (invs : List Invariant) (words : List (List ℕ)) (n : ℕ) → AreTyped words n → HoldAll words invs
    → EachNeedsMore limit invs words n ↔ RunNeedsMore limit invs words n

-- and exactly if the run stops at the limit, provided that the first graph keeps it
abbrev pub StopsTell : Type 0
StopsTell =
    (limit : ℕ) (invs : List Invariant) (words : List (List ℕ)) (n : ℕ) → AreTyped words n → HoldAll words invs
    → n ≤ limit → StopsFull limit invs words n ↔ RunNeedsMore limit invs words n
