-- Traces laid one after another, and what is required of their ids.
use Rattle.std.specs.Prelude.{ℕ, suc, ◌==◌, ◌&&◌, ◌<◌, ◌≤◌, max, if◌then◌else◌, List, [], ◌∷◌, map}
use Rattle.std.specs.List.{flat_map}
use Rattle.limits.specs.declared.TheConstants.{INITIAL, TERMINAL, FIRST_TYPE}
use Rattle.traces.specs.Words.{Log}
use Rattle.partition_model.specs.Assignments.{Assignment, AllEvents, id_list, pairs, begins_with}

-- the words of a log without their two ends
abbrev pub inner_words_of : Log → List (List ℕ)
inner_words_of log = map (λ trace. trace.events) log.traces

-- the ids of all traces, each trace between its two ends
abbrev pub laid : Assignment → List ℕ
laid h = flat_map id_list h

-- each event has an id from FIRST_TYPE on and below n
abbrev pub HaveIdsBelow : ℕ → Assignment → Type 0
HaveIdsBelow n h = AllEvents (λ e. (FIRST_TYPE ≤ e.id) × (e.id < n)) h

-- at how many places q directly follows p within a trace; the list begins with a trace
abbrev pub edges_along : ℕ → ℕ → List ℕ → ℕ
edges_along p q ids = if q == INITIAL then 0 else pairs p q (TERMINAL ∷ ids)

-- the length of the common prefix of the path and the list, up to the end of the list's first trace
abbrev pub common_in_trace : List ℕ → List ℕ → ℕ
common_in_trace [] ids = 0
common_in_trace (x ∷ path) [] = 0
common_in_trace (x ∷ path) (y ∷ ids) =
    if x == y then (if y == TERMINAL then 1 else suc (common_in_trace path ids)) else 0

-- the length of the longest prefix that the path shares with a trace of the list
abbrev pub longest : List ℕ → List ℕ → ℕ
longest path [] = 0
longest path (y ∷ ids) = max (if y == INITIAL then common_in_trace path (y ∷ ids) else 0) (longest path ids)

-- each p that is directly followed by q is replaced by n
abbrev pub moved : ℕ → ℕ → ℕ → List ℕ → List ℕ
moved p q n [] = []
moved p q n (x ∷ ids) = (if x == p && begins_with q ids then n else x) ∷ moved p q n ids

-- 1 if a and b are p and q, and b does not begin a trace; else 0
abbrev pub step_count : ℕ → ℕ → ℕ → ℕ → ℕ
step_count a b p q = if b == INITIAL then 0 else (if a == p && b == q then 1 else 0)
