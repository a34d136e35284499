-- Which candidates still hold, as sets of types.
use Rattle.std.specs.Prelude.{ℕ, ◌≡◌, ◌<◌, ◌+◌, ◌==◌, if◌then◌else◌, not, Bool, List, [], ◌∷◌, ◌++◌}
use Rattle.limits.specs.declared.TheConstants.{INITIAL, TERMINAL, FIRST_TYPE}
use Rattle.invariants.specs.declared.Kind.TheVariants.{AF, NF, AP, IB}
use Rattle.invariants.specs.declared.Kinds.{Kinds}
use Rattle.invariants.specs.declared.Kinds.TheVariants.{Three, Four}
use Rattle.invariants.specs.declared.Invariant.{Invariant}
use Rattle.invariants.specs.Candidates.{invariant}
use Rattle.invariants.specs.Mined.{holds_of_all}
use Rattle.closure_miner.specs.declared.standing.Standing.{Standing}
use Rattle.closure_miner.specs.Sets.{has_at}
use Rattle.closure_miner.specs.Rows.{in_row}

-- the word of a trace with these events
abbrev pub word_with : List ℕ → List ℕ
word_with events = INITIAL ∷ events ++ TERMINAL ∷ []

-- InterruptedBy between two types, if it is a candidate
abbrev pub of_interrupted : Kinds → ℕ → ℕ → List Invariant
of_interrupted Three a b = []
of_interrupted Four a b = if a == b then [] else invariant IB a b ∷ []

-- the sets say of each candidate whether it holds of each word
pub record Stands {S : Type 0} (has : S → ℕ → Bool) (standing : Standing S) (words : List (List ℕ)) : Type 0 where
  pub followed : (a b : ℕ) → a < standing.types → b < standing.types
      → has_at has standing.followed.items a b
      ≡ holds_of_all words (invariant AF (a + FIRST_TYPE) (b + FIRST_TYPE))
  pub never : (a b : ℕ) → a < standing.types → b < standing.types
      → not (has_at has standing.met.items a b)
      ≡ holds_of_all words (invariant NF (a + FIRST_TYPE) (b + FIRST_TYPE))
  pub preceded : (a b : ℕ) → a < standing.types → b < standing.types
      → has_at has standing.preceded.items b a
      ≡ holds_of_all words (invariant AP (a + FIRST_TYPE) (b + FIRST_TYPE))
  pub everywhere : (b : ℕ) → b < standing.types
      → has standing.everywhere b ≡ holds_of_all words (invariant AF INITIAL (b + FIRST_TYPE))
  pub between : standing.kinds ≡ Four → (a b : ℕ) → a < standing.types → b < standing.types
      → has_at in_row standing.between.rows.items a b
      ≡ holds_of_all words (invariant IB (a + FIRST_TYPE) (b + FIRST_TYPE))
