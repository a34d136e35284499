-- The text of the paths that traces take through partitions.
use Rattle.std.specs.Prelude.{ℕ, ◌≡◌, ◌+◌, Bool, true, List, [], ◌∷◌, ◌++◌, map, length, take, drop, count_by, sum_by, codes, decimal, if◌then◌else◌, flat_map, Contains}
use Rattle.std.specs.List.{zip}
use Rattle.std.specs.Str.{bytes_eq}
use Rattle.traces.specs.Words.{Trace, Log, first_met}
use Rattle.reports.specs.Reports.{name_of}
use Rattle.reports.specs.declared.taken.TakenPath.{TakenPath}

-- what a trace goes through: the types of its events, and the ids of their partitions
pub record TracePath : Type 0 where
  pub types : List ℕ
  pub ids : List ℕ

-- a path by its types and its ids
abbrev pub trace_path : List ℕ → List ℕ → TracePath
trace_path types ids = record { types = types; ids = ids }

-- a path, and how many traces take it
pub record Taken : Type 0 where
  pub path : TracePath
  pub count : ℕ

-- the path of each trace: the ids of its events are the first of `parts`, and those of the next trace follow
abbrev pub paths_of : List Trace → List ℕ → List TracePath
paths_of [] parts = []
paths_of (trace ∷ traces) parts =
    trace_path trace.events (take (length trace.events) parts)
    ∷ paths_of traces (drop (length trace.events) parts)

-- two paths have the same ids, one by one
abbrev pub same_ids : TracePath → TracePath → Bool
same_ids p q = bytes_eq p.ids q.ids

-- a path with how many of these have its ids
abbrev pub taken_by : List TracePath → TracePath → Taken
taken_by paths p = record { path = p; count = count_by (same_ids p) paths }

-- the distinct paths, in the order first met, each with how many times it is taken
unfoldable pub taken : List TracePath → List Taken
taken paths = map (taken_by paths) (first_met same_ids paths)

-- how an event is shown: by its type's name and the id of its partition
abbrev pub step_text : List (List ℕ) → ℕ × ℕ → List ℕ
step_text types step = 32 ∷ name_of types step.0 ++ 64 ∷ decimal step.1

-- the line of a path: how often it is taken, and its events between the two ends
abbrev pub path_line : List (List ℕ) → Taken → List ℕ
path_line types t =
    decimal t.count ++ codes ": INITIAL" ++ flat_map (step_text types) (zip t.path.types t.path.ids)
    ++ codes " TERMINAL\n"

-- a line for each distinct path, in the order first met
abbrev pub path_report : Log → List ℕ → List ℕ
path_report log parts = flat_map (path_line log.types) (taken (paths_of log.traces parts))

-- how many times the paths are taken together
abbrev pub total : List Taken → ℕ
total ts = sum_by (λ t. t.count) ts

-- the lines tell of each trace, and of each once
pub record PathsTell : Type 0 where
  -- the counts add up to the number of traces
  pub all : (paths : List TracePath) → total (taken paths) ≡ length paths
  -- the path of each trace has one line
  pub once : (paths : List TracePath) (p : TracePath) → Contains paths p
      → count_by (λ t. same_ids t.path p) (taken paths) ≡ 1
  -- where events of one id have one type, two paths of one line are the same
  pub same : (type_of : ℕ → ℕ) (p q : TracePath) → p.types ≡ map type_of p.ids → q.types ≡ map type_of q.ids
      → same_ids p q ≡ true → p ≡ q

-- what the code keeps

-- a path that is taken, by what its references point to
abbrev pub shown : TakenPath → Taken
shown t = record { path = trace_path t.types.now t.ids.now; count = t.count }

-- the lists are the ids of the paths, in the same order
abbrev pub AreIdsOf : List (List ℕ) → List TakenPath → Type 0
AreIdsOf lists paths = lists ≡ map (λ t. t.ids.now) paths

-- the paths after one more trace: with those of its ids, or as the first of a new path at the end
abbrev pub with_path : List Taken → TracePath → List Taken
with_path [] p = record { path = p; count = 1 } ∷ []
with_path (t ∷ ts) p =
    if same_ids p t.path then record { path = t.path; count = t.count + 1 } ∷ ts
    else t ∷ with_path ts p
