-- `paths`: the paths that the traces of a log take through its model, for the kinds of invariants asked for.
use Rattle.std.specs.Prelude.{ℕ, ◌≡◌, true, List, length, count_by, Contains, Result}
use Rattle.std.specs.List.{AllByRecursion}
use Rattle.invariants.specs.declared.Kinds.{Kinds}
use Rattle.traces.specs.Words.{Log}
use Rattle.partition_model.specs.Graphs.{Graph, IsPath, word}
use Rattle.partition_model.specs.Assignments.{G, with_ends}
use Rattle.models.specs.Models.{typed_words}
use Rattle.infer_core.specs.Runs.{AreFinal}
use Rattle.reports.specs.Paths.{TracePath, Taken, paths_of, path_report, same_ids, taken, total}
use Rattle.synoptic_cli.specs.declared.answer.Answer.{Answer}
use Rattle.synoptic_cli.specs.declared.material.Material.{Material}
use Rattle.synoptic_cli.specs.declared.status.LimitKind.{LimitKind}
use Rattle.synoptic_cli.specs.Commands.Answered.{done}
use Rattle.synoptic_cli.specs.Commands.Inference.{AnswersInferred}

-- the path of each trace, if its events have these ids
abbrev pub paths : Log → List ℕ → List TracePath
paths log ids = paths_of log.traces ids

-- the content of the lines: the distinct paths, each with the number of traces that take it
abbrev pub lines : Log → List ℕ → List Taken
lines log ids = taken (paths log ids)

-- the ids with the two ends are a path of the graph, and its word is that of the types
abbrev pub IsWalked : Graph → TracePath → Type 0
IsWalked g p = IsPath g (with_ends p.ids) × (word g (with_ends p.ids) ≡ with_ends p.types)

-- each trace is counted in exactly one line, which shows its path, and its path is one of the graph
pub record ShowsPaths (log : Log) (ids : List ℕ) (g : Graph) : Type 0 where
  -- the counts add up to the number of traces
  pub all : total (lines log ids) ≡ length log.traces
  -- exactly one line has the ids of each trace's path
  pub once : (p : TracePath) → Contains (paths log ids) p
      → count_by (λ t. same_ids t.path p) (lines log ids) ≡ 1
  -- a line with the ids of a trace's path also has its types
  pub same : (t : Taken) (p : TracePath) → Contains (lines log ids) t → Contains (paths log ids) p
      → same_ids t.path p ≡ true → t.path ≡ p
  -- each trace's path is one of the graph, with the word of the trace
  pub walked : AllByRecursion (IsWalked g) (paths log ids)

-- the text shows exactly the paths by the final ids of the events, after coarsening of the log, in the graph there
pub record TellsPaths (kinds : Kinds) (log : Log) (a : Answer) : Type 0 where
  pub ids : List ℕ
  pub final : AreFinal (typed_words kinds log) ids
  pub value : a ≡ done (path_report log ids)
  pub exact : ShowsPaths log ids (G final.end)

-- the answer: the paths of the traces, or the limit that inference of the log exceeds
abbrev pub Answers : Kinds → Material → Result Answer LimitKind → Type 0
Answers kinds m r = AnswersInferred (typed_words kinds m.log) (TellsPaths kinds m.log) r
