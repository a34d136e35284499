-- What a check answers for a model and a log.
use Rattle.std.specs.Prelude.{ℕ, List, map}
use Rattle.traces.specs.Words.{Log}
use Rattle.invariants.specs.declared.Invariant.{Invariant}
use Rattle.invariants.specs.declared.records.Listed.{Listed}
use Rattle.invariants.specs.declared.records.Model.{Model}
use Rattle.partition_model.specs.Graphs.{Graph, Accepts}
use Rattle.partition_model.specs.Assignments.{with_ends}
use Rattle.models.specs.Models.{TypedWords}
use Rattle.models.specs.Checks.{IsValid, IsFirstPart}
use Rattle.model_check.specs.declared.verdict.Verdict.{Verdict}
use Rattle.model_check.specs.declared.verdict.Verdict.TheVariants.{Yes, No}

-- the invariant of a listed one, without its labels
abbrev pub inv_of : Listed → Invariant
inv_of l = l.inv

-- the words of a log without their two ends
abbrev pub inner_words_of : Log → List (List ℕ)
inner_words_of log = map (λ trace. trace.events) log.traces

-- the graph accepts this word with the two ends added
abbrev pub HasPathFor : Graph → List ℕ → Type 0
HasPathFor g w = Accepts g (with_ends w)

-- yes for a valid model, or no with the first part that fails
abbrev pub IsVerdict : Model → TypedWords → Verdict → Type 0
IsVerdict m log Yes = IsValid m log
IsVerdict m log (No part) = IsFirstPart m log part
