-- How marks propagate over a graph.
use Rattle.std.specs.Prelude.{ℕ, ◌≡◌, ◌≢◌, ◌<◌, ◌⊎◌, Bool, true, false, if◌then◌else◌, List, reverse, slice_get, Some}
use Rattle.limits.specs.declared.TheConstants.{INITIAL, TERMINAL, MAX_PARTITIONS}
use Rattle.invariants.specs.declared.Invariant.{Invariant}
use Rattle.partition_model.specs.Graphs.{Graph, Satisfies}
use Rattle.partition_graph.specs.declared.links.Link.{Link}
use Rattle.merge_law.specs.Critical.{Fore, Back, IsOnPath}
use Rattle.clashes.specs.Rules.{enters, stays, falls, starts, is_bad_itself}
use Rattle.clashes.specs.Marks.{Marks, on}
use Rattle.bit_rows.specs.Tables.{is_set}
use Rattle.clashes.specs.Changes.{IsFollowed}

-- both ends of each edge are on a path, and their ids are below the limit
abbrev pub HasEndsOnPaths : Graph → Type 0
HasEndsOnPaths g =
    (u v : ℕ) → g.edge u v ≡ true
    → IsOnPath g u × IsOnPath g v × (u < MAX_PARTITIONS) × (v < MAX_PARTITIONS)

-- each mark of an invariant that the graph satisfies is correct at each id on a path
pub record AreSound (marks : Marks) (g : Graph) : Type 0 where
  pub fore : (k p : ℕ) (inv : Invariant) → slice_get marks.invs k ≡ Some inv → Satisfies g inv
      → p < MAX_PARTITIONS → IsOnPath g p → on marks.fores p k ≡ true → Fore inv g p
  pub back : (k p : ℕ) (inv : Invariant) → slice_get marks.invs k ≡ Some inv → Satisfies g inv
      → p < MAX_PARTITIONS → IsOnPath g p → on marks.backs p k ≡ true → Back inv g p

-- for the invariants that the graph satisfies, the two ends have the marks that all others come from
pub record HasBegun (marks : Marks) (g : Graph) : Type 0 where
  pub fore : (k : ℕ) (inv : Invariant) → slice_get marks.invs k ≡ Some inv → Satisfies g inv
      → starts inv ≡ true → on marks.fores INITIAL k ≡ true
  pub back : (k : ℕ) (inv : Invariant) → slice_get marks.invs k ≡ Some inv → Satisfies g inv
      → is_bad_itself inv ≡ true → on marks.backs TERMINAL k ≡ true

-- the marks that the edge gives directly are set, for the invariants that the graph satisfies
pub record HasEntered (marks : Marks) (g : Graph) (u v : ℕ) : Type 0 where
  pub fore : (k : ℕ) (inv : Invariant) → slice_get marks.invs k ≡ Some inv → Satisfies g inv
      → enters inv (g.typ v) ≡ true → on marks.fores v k ≡ true
  pub back : (k : ℕ) (inv : Invariant) → slice_get marks.invs k ≡ Some inv → Satisfies g inv
      → falls inv (g.typ v) ≡ true → on marks.backs u k ≡ true

-- no mark propagates further along the edge, for the invariants that the graph satisfies
pub record IsClosedAt (marks : Marks) (g : Graph) (u v : ℕ) : Type 0 where
  pub fore : (k : ℕ) (inv : Invariant) → slice_get marks.invs k ≡ Some inv → Satisfies g inv
      → stays inv (g.typ v) ≡ true → on marks.fores u k ≡ true → on marks.fores v k ≡ true
  pub back : (k : ℕ) (inv : Invariant) → slice_get marks.invs k ≡ Some inv → Satisfies g inv
      → stays inv (g.typ v) ≡ true → on marks.backs v k ≡ true → on marks.backs u k ≡ true

-- the marks that the edges give directly are set
abbrev pub AreEntered : Marks → Graph → Type 0
AreEntered marks g = (u v : ℕ) → g.edge u v ≡ true → HasEntered marks g u v

-- no mark propagates further along any edge
abbrev pub IsClosed : Marks → Graph → Type 0
IsClosed marks g = (u v : ℕ) → g.edge u v ≡ true → IsClosedAt marks g u v

-- no mark propagates further along any edge that does not touch p
abbrev pub IsClosedBeside : Marks → Graph → ℕ → Type 0
IsClosedBeside marks g p = (u v : ℕ) → g.edge u v ≡ true → u ≢ p → v ≢ p → IsClosedAt marks g u v

-- marks are added and none is removed, and correct marks stay correct
pub record IsGrown (old new : Marks) (g : Graph) : Type 0 where
  pub invs : new.invs ≡ old.invs
  pub sound : HasEndsOnPaths g → AreSound old g → AreSound new g
  pub fores : (k p : ℕ) (inv : Invariant) → slice_get old.invs k ≡ Some inv → on old.fores p k ≡ true
      → on new.fores p k ≡ true
  pub backs : (k p : ℕ) (inv : Invariant) → slice_get old.invs k ≡ Some inv → on old.backs p k ≡ true
      → on new.backs p k ≡ true

-- `fresh` flags the ids with new marks, and this id is not flagged
abbrev pub IsStill : List Bool → ℕ → Type 0
IsStill fresh p = is_set fresh p ≡ false

-- no mark propagates further along any edge that has no new marks at either end
abbrev pub IsClosedBut : Marks → Graph → List Bool → Type 0
IsClosedBut marks g fresh =
    (u v : ℕ) → g.edge u v ≡ true → IsStill fresh u → IsStill fresh v → IsClosedAt marks g u v

-- the marks were propagated along the edge; or neither end had new marks, and nothing changed
pub record IsFollowedIfNew (old new : Marks) (u v typ : ℕ) (recent now : List Bool) : Type 0 where
  pub new_or_still : IsFollowed old new u v typ
      ⊎ ((new ≡ old) × IsStill recent u × IsStill recent v × IsStill now u × IsStill now v)

-- both ends of the edge are flagged, and the other flags stay
pub record IsNoted (old new : List Bool) (u v : ℕ) : Type 0 where
  pub from : is_set new u ≡ true
  pub to : is_set new v ≡ true
  pub others : (p : ℕ) → p ≢ u → p ≢ v → is_set new p ≡ is_set old p

-- the links in the order in which a pass takes them
abbrev pub as_passed : Bool → List Link → List Link
as_passed from_end links = if from_end then reverse links else links
