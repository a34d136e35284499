-- What a question asks.
use Rattle.std.specs.Prelude.{ℕ, Bool}
use Rattle.partition_graph.specs.Seen.{seen}
use Rattle.path_finder.specs.declared.question.Question.{Question}
use Rattle.path_finder.specs.IdSets.{has_id}
use Rattle.path_finder.specs.Nearness.{narrowed}
use Rattle.path_finder.specs.Walks.{Asked}

-- whether the question looks at the edges of the id
abbrev pub looks_at : Question → ℕ → Bool
looks_at q id = has_id q.near.now id

-- the graph that the question's view shows, with only the edges between ids that are kept; the invariant; and the
-- number of ids
abbrev pub asked : Question → Asked
asked q = record { graph = narrowed (has_id q.near.now) (seen q.sight.now.view); inv = q.inv; ids = q.ids }
