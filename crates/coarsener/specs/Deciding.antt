-- The decision on a pair.
use Rattle.std.specs.Prelude.{◌≡◌, ℕ, ◌⊎◌, List, [], ◌∷◌, ◌++◌, Option, MatchOption}
use Rattle.invariants.specs.declared.Invariant.{Invariant}
use Rattle.cell_pool.specs.RunLists.{RunLists}
use Rattle.partition_model.specs.Graphs.{Graph, Merged}
use Rattle.partition_model.specs.Assignments.{Assignment, G}
use Rattle.partition_model.specs.Refinement.{SatisfiesAll, IsFirstBroken}
use Rattle.partition_model.specs.Coarsening.{merge}
use Rattle.partition_graph.specs.Parts.{Parts, joined}

-- the merge of the pair loses an invariant
abbrev pub IsLost : List Invariant → Parts → ℕ → ℕ → Type 0
IsLost invs parts p q = SatisfiesAll (G (merge p q parts.traces)) invs → ⊥

-- the run's log with the merge of the pair appended
abbrev pub with_merge : ℕ → ℕ → RunLists → RunLists
with_merge p q run_log = record run_log { merges = run_log.merges ++ record { p = p; q = q } ∷ [] }

-- the pair stays apart because its merge loses an invariant
pub record StaysApart (invs : List Invariant) (old new : Parts) (run_log run_log' : RunLists) (p q : ℕ) : Type 0 where
  pub lost : IsLost invs old p q
  pub graph : new ≡ old
  pub told : run_log' ≡ run_log

-- the pair is merged because its merge loses no invariant
pub record IsMerged (invs : List Invariant) (old new : Parts) (run_log run_log' : RunLists) (p q : ℕ) : Type 0 where
  pub keeps : SatisfiesAll (G (merge p q old.traces)) invs
  pub graph : new ≡ joined p q old
  pub told : run_log' ≡ with_merge p q run_log

-- the pair stays apart if its merge loses an invariant, and else is merged
abbrev pub IsDecided : List Invariant → Parts → Parts → RunLists → RunLists → ℕ → ℕ → Type 0
IsDecided invs old new run_log run_log' p q =
    StaysApart invs old new run_log run_log' p q ⊎ IsMerged invs old new run_log run_log' p q

-- the number of the first invariant that the graph does not satisfy, or none if it satisfies all
abbrev pub IsFirstBad : Graph → List Invariant → Option ℕ → Type 0
IsFirstBad g invs bad = MatchOption bad (SatisfiesAll g invs) (λ k. IsFirstBroken g invs k)

-- the number of the first invariant that the merge of the pair loses, or none if it loses none
abbrev pub IsFirstLost : Assignment → List Invariant → ℕ → ℕ → Option ℕ → Type 0
IsFirstLost h invs p q lost = IsFirstBad (Merged (G h) p q) invs lost
