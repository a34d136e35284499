-- How the ids that walks lead to are met, one after another.
use Rattle.std.specs.Prelude.{ℕ, ◌≡◌, ◌+◌, ◌<◌, ◌≤◌, Bool, true, not, [], ◌∷◌, ◌++◌, length, slice_get, slice_set, count_by, Some, if◌then◌else◌}
use Rattle.limits.specs.declared.TheConstants.{MAX_PARTITIONS}
use Rattle.partition_model.specs.Graphs.{Graph}
use Rattle.path_finder.specs.declared.reach.Way.{Way}
use Rattle.path_finder.specs.declared.reach.Way.TheVariants.{Ahead, Behind}
use Rattle.path_finder.specs.Nearness.{Met, is_met}

-- the edges of a graph, or the same edges reversed
abbrev pub edge_by : Way → Graph → ℕ → ℕ → Bool
edge_by Ahead g p q = g.edge p q
edge_by Behind g p q = g.edge q p

-- the id is met and listed, if it was not already
abbrev pub meeting : Met → ℕ → Met
meeting m id =
    if is_met m id then m else record { flags = slice_set m.flags id true; list = m.list ++ id ∷ [] }

-- there is a flag for each id, and the list has room for all ids that are not met
pub record IsCounted (m : Met) : Type 0 where
  pub size : length m.flags ≡ MAX_PARTITIONS
  pub count : length m.list + count_by not m.flags ≤ MAX_PARTITIONS

-- met ids stay met, and listed ids keep their places
pub record MeetsMore (old new : Met) : Type 0 where
  pub met : (p : ℕ) → is_met old p ≡ true → is_met new p ≡ true
  pub listed : (i p : ℕ) → slice_get old.list i ≡ Some p → slice_get new.list i ≡ Some p

-- each met id is listed, and all edges of the ids before place `next` in the list were followed
pub record IsReaching (edge : ℕ → ℕ → Bool) (next : ℕ) (m : Met) : Type 0 where
  pub counted : IsCounted m
  pub listed : (p : ℕ) → is_met m p ≡ true → (i : ℕ) × (slice_get m.list i ≡ Some p)
  pub done : (i p q : ℕ) → i < next → slice_get m.list i ≡ Some p → edge p q ≡ true → is_met m q ≡ true
