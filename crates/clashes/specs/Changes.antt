-- What each step does to marks.
use Rattle.std.specs.Prelude.{ℕ, ◌≡◌, ◌≢◌, ◌+◌, ◌<◌, ◌&&◌, ◌||◌, if◌then◌else◌, slice_get, Some}
use Rattle.std.specs.Prelude.{Bool, true, false, List, [], ◌∷◌}
use Rattle.limits.specs.declared.TheConstants.{INITIAL, TERMINAL}
use Rattle.invariants.specs.declared.Invariant.{Invariant}
use Rattle.clashes.specs.Marks.{Marks, on}
use Rattle.clashes.specs.Rules.{enters, stays, falls, starts, is_bad_itself}

-- how many bits of a row are off
abbrev pub off_in_row : List Bool → ℕ
off_in_row [] = 0
off_in_row (x ∷ row) = (if x then 0 else 1) + off_in_row row

-- how many bits of all rows are off
abbrev pub off : List (List Bool) → ℕ
off [] = 0
off (row ∷ rows) = off_in_row row + off rows

-- how many marks are off
abbrev pub off_in : Marks → ℕ
off_in marks = off marks.fores + off marks.backs

-- the marks of the first ids are off
pub record IsBlankBelow (marks : Marks) (ids : ℕ) : Type 0 where
  pub fores : (k p : ℕ) → p < ids → on marks.fores p k ≡ false
  pub backs : (k p : ℕ) → p < ids → on marks.backs p k ≡ false

-- the marks of this id are off, and all others stay
pub record IsUnmarked (old new : Marks) (p : ℕ) : Type 0 where
  pub invs : new.invs ≡ old.invs
  pub fore : (k : ℕ) → on new.fores p k ≡ false
  pub back : (k : ℕ) → on new.backs p k ≡ false
  pub fores : (k r : ℕ) → r ≢ p → on new.fores r k ≡ on old.fores r k
  pub backs : (k r : ℕ) → r ≢ p → on new.backs r k ≡ on old.backs r k

-- p has its own marks and those of q, and all others stay
pub record IsTakenUp (old new : Marks) (p q : ℕ) : Type 0 where
  pub invs : new.invs ≡ old.invs
  pub fore : (k : ℕ) → on new.fores p k ≡ (on old.fores p k || on old.fores q k)
  pub back : (k : ℕ) → on new.backs p k ≡ (on old.backs p k || on old.backs q k)
  pub fores : (k r : ℕ) → r ≢ p → on new.fores r k ≡ on old.fores r k
  pub backs : (k r : ℕ) → r ≢ p → on new.backs r k ≡ on old.backs r k

-- the marks of q moved to p
pub record IsJoined (old new : Marks) (p q : ℕ) : Type 0 where
  pub invs : new.invs ≡ old.invs
  pub fore : (k : ℕ) → on new.fores p k ≡ (on old.fores p k || on old.fores q k)
  pub back : (k : ℕ) → on new.backs p k ≡ (on old.backs p k || on old.backs q k)
  pub fore_gone : (k : ℕ) → on new.fores q k ≡ false
  pub back_gone : (k : ℕ) → on new.backs q k ≡ false
  pub fores : (k r : ℕ) → r ≢ p → r ≢ q → on new.fores r k ≡ on old.fores r k
  pub backs : (k r : ℕ) → r ≢ p → r ≢ q → on new.backs r k ≡ on old.backs r k

-- the two ends also have the marks that all others come from; the marks of other ids stay
pub record IsBegun (old new : Marks) : Type 0 where
  pub invs : new.invs ≡ old.invs
  pub fore : (k : ℕ) (inv : Invariant) → slice_get old.invs k ≡ Some inv
      → on new.fores INITIAL k ≡ (on old.fores INITIAL k || starts inv)
  pub back : (k : ℕ) (inv : Invariant) → slice_get old.invs k ≡ Some inv
      → on new.backs TERMINAL k ≡ (on old.backs TERMINAL k || is_bad_itself inv)
  pub fores : (k r : ℕ) → r ≢ INITIAL → on new.fores r k ≡ on old.fores r k
  pub backs : (k r : ℕ) → r ≢ TERMINAL → on new.backs r k ≡ on old.backs r k

-- an edge from u to v, with v of this type, marks v for the invariants that enter and u for those that fall
pub record IsEntered (old new : Marks) (u v typ : ℕ) : Type 0 where
  pub invs : new.invs ≡ old.invs
  pub fore : (k : ℕ) (inv : Invariant) → slice_get old.invs k ≡ Some inv
      → on new.fores v k ≡ (on old.fores v k || enters inv typ)
  pub back : (k : ℕ) (inv : Invariant) → slice_get old.invs k ≡ Some inv
      → on new.backs u k ≡ (on old.backs u k || falls inv typ)
  pub fores : (k r : ℕ) → r ≢ v → on new.fores r k ≡ on old.fores r k
  pub backs : (k r : ℕ) → r ≢ u → on new.backs r k ≡ on old.backs r k

-- the marks are propagated along the edge, for the invariants that stay critical
pub record IsFollowed (old new : Marks) (u v typ : ℕ) : Type 0 where
  pub invs : new.invs ≡ old.invs
  pub fore : (k : ℕ) (inv : Invariant) → slice_get old.invs k ≡ Some inv
      → on new.fores v k ≡ (on old.fores v k || (stays inv typ && on old.fores u k))
  pub back : (k : ℕ) (inv : Invariant) → slice_get old.invs k ≡ Some inv
      → on new.backs u k ≡ (on old.backs u k || (stays inv typ && on old.backs v k))
  pub fores : (k r : ℕ) → r ≢ v → on new.fores r k ≡ on old.fores r k
  pub backs : (k r : ℕ) → r ≢ u → on new.backs r k ≡ on old.backs r k

-- if the answer is false, nothing changed; if it is true, fewer bits are off
pub record TellsGrowth (old new : Marks) (changed : Bool) : Type 0 where
  pub same : changed ≡ false → new ≡ old
  pub fewer : changed ≡ true → off_in new < off_in old
