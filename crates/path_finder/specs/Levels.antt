-- The levels of the search: the pairs at one distance.
use Rattle.std.specs.Prelude.{◌≡◌, ℕ, ◌+◌, ◌*◌, ◌<◌, ◌≤◌, ◌⊎◌, true, length}
use Rattle.limits.specs.declared.TheConstants.{TERMINAL}
use Rattle.invariants.specs.Monitors.{is_bad}
use Rattle.path_finder.specs.declared.pair.TheConstants.{STATES}
use Rattle.path_finder.specs.declared.table.TheConstants.{OPEN}
use Rattle.path_finder.specs.declared.pair.Pair.{Pair}
use Rattle.path_finder.specs.declared.pair_set.PairSet.{PairSet}
use Rattle.path_finder.specs.declared.pair_set.Part.{Part}
use Rattle.path_finder.specs.Gathering.{IsPairIn}
use Rattle.path_finder.specs.PairSets.{has_pair, IsAmong, IsMarked}
use Rattle.path_finder.specs.Tables.{Entries, at, open_count, AreWithin, IsKnown, IsSplitAt}
use Rattle.path_finder.specs.Walks.{Asked, IsPairOf, Finishes}

-- the set has TERMINAL in the bad states below this one, and nothing else
pub record HasEndsBelow (a : Asked) (state : ℕ) (s : PairSet) : Type 0 where
  pub marked : IsMarked s
  pub ends : (r : Pair) → IsPairIn s r → (r.id ≡ TERMINAL) × (is_bad a.inv r.state ≡ true)
  pub all : (r : Pair) → r.id ≡ TERMINAL → r.state < state → is_bad a.inv r.state ≡ true
      → has_pair s r ≡ true

-- walks of this length that end badly lead from the pairs of the set, and from no other pair that is open
pub record IsFound (a : Asked) (d : ℕ) (e : Entries) (s : PairSet) : Type 0 where
  pub marked : IsMarked s
  pub sound : (r : Pair) → IsPairIn s r → IsPairOf a r × Finishes a r d
  pub whole : (r : Pair) → IsPairOf a r → Finishes a r d → (at e r < OPEN) ⊎ (has_pair s r ≡ true)

-- the set has the pairs that were entered, and no other
pub record HasEntered (a : Asked) (e : Entries) (s : PairSet) : Type 0 where
  pub sound : (r : Pair) → IsPairIn s r → IsPairOf a r × (at e r < OPEN)
  pub whole : (r : Pair) → IsPairOf a r → at e r < OPEN → has_pair s r ≡ true

-- all pairs that are nearer are entered, and so are some of the pairs at this distance; the others are found
pub record IsEntering (a : Asked) (d : ℕ) (e : Entries) (f : PairSet) : Type 0 where
  pub known : IsKnown a d e
  pub low : AreWithin a d e
  pub found : IsFound a d e f
  pub room : d + open_count e ≤ a.ids * STATES

-- all pairs that are nearer are entered, and those at this distance are found
pub record IsDue (a : Asked) (d : ℕ) (e : Entries) (f : PairSet) : Type 0 where
  pub entering : IsEntering a d e f
  pub none : (r : Pair) → IsPairOf a r → at e r ≡ d → ⊥

-- all pairs up to this distance are entered
pub record IsReached (a : Asked) (d : ℕ) (e : Entries) : Type 0 where
  pub known : IsKnown a (d + 1) e
  pub low : AreWithin a d e
  pub room : d + open_count e ≤ a.ids * STATES

-- each pair has this distance, or is as before
abbrev pub ArePassed : Asked → ℕ → Entries → Entries → Type 0
ArePassed a d old new = (r : Pair) → IsPairOf a r → (at new r ≡ at old r) ⊎ (at new r ≡ d)

-- the open pairs of the part were entered with this distance, and nothing else was
pub record AreOpened (a : Asked) (part : Part) (d : ℕ) (old new : Entries) : Type 0 where
  pub size : length new.distances ≡ length old.distances
  pub entered : (r : Pair) → IsAmong part r → at new r < OPEN
  pub known : (r : Pair) → IsPairOf a r → at old r < OPEN → at new r ≡ at old r
  pub others : (r : Pair) → IsPairOf a r → (at new r ≡ at old r) ⊎ (IsAmong part r × (at new r ≡ d))
  pub count : open_count new ≤ open_count old
  pub split : (first : ℕ) → IsSplitAt d first old → IsSplitAt d first new
