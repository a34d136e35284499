-- What is known of the ids around single ids.
use Rattle.std.specs.Prelude.{ℕ, ◌≡◌, ◌==◌, List, slice_get, Some}
use Rattle.partition_model.specs.Graphs.{Graph}
use Rattle.path_finder.specs.declared.survey.Surrounding.{Surrounding}
use Rattle.path_finder.specs.IdSets.{has_id}
use Rattle.path_finder.specs.Keeping.{KeepsAround}

-- for each id of the list, the ids around it in the graph are kept
abbrev pub IsSurveyOf : List Surrounding → Graph → Type 0
IsSurveyOf found g =
    (k : ℕ) (s : Surrounding) → slice_get found k ≡ Some s → KeepsAround (has_id s.near) g (λ p. p == s.id)

-- what was found: the ids around single ids, and the last path
pub record Found : Type 0 where
  pub survey : List Surrounding
  pub path : List ℕ
