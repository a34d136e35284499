-- `invariants`: the invariants that hold in every trace of a log.
use Rattle.std.specs.Prelude.{ℕ, ◌≡◌, ◌↔◌, ◌⊎◌, ◌<◌, List, length, Contains, Some, slice_get, Result, Ok}
use Rattle.std.specs.List.{AllByRecursion}
use Rattle.limits.specs.declared.TheConstants.{INITIAL}
use Rattle.traces.specs.Words.{Log, words_of}
use Rattle.invariants.specs.Candidates.{candidates_for}
use Rattle.invariants.specs.Mined.{mined_for, IsListed}
use Rattle.invariants.specs.declared.Kinds.{Kinds}
use Rattle.invariants.specs.declared.Invariant.{Invariant}
use Rattle.reports.specs.Reports.{invariant_report}
use Rattle.synoptic_cli.specs.declared.answer.Answer.{Answer}
use Rattle.synoptic_cli.specs.declared.material.Material.{Material}
use Rattle.synoptic_cli.specs.declared.status.LimitKind.{LimitKind}
use Rattle.synoptic_cli.specs.Commands.Answered.{done}
use Rattle.synoptic_cli.specs.Commands.TypeNames.{HasText}

-- the listed invariants
abbrev pub listed : Kinds → Log → List Invariant
listed kinds log = mined_for kinds (length log.types) (words_of log)

-- listed invariants keep the order of the candidates
abbrev pub AreInOrder : Kinds → Log → Type 0
AreInOrder kinds log =
    (j k m n : ℕ) (first second : Invariant)
    → slice_get (listed kinds log) j ≡ Some first → slice_get (listed kinds log) k ≡ Some second
    → slice_get (candidates_for kinds (length log.types)) m ≡ Some first
    → slice_get (candidates_for kinds (length log.types)) n ≡ Some second
    → j < k → m < n

-- no invariant is listed twice
abbrev pub AreOnce : Kinds → Log → Type 0
AreOnce kinds log =
    (j k : ℕ) (inv : Invariant)
    → slice_get (listed kinds log) j ≡ Some inv → slice_get (listed kinds log) k ≡ Some inv → j ≡ k

-- the list contains exactly the candidates of these kinds that hold, by places, of every word of the log, in order,
-- without duplicates; each type in it has a text, except INITIAL as the first of the two
pub record ListsExactly (kinds : Kinds) (log : Log) : Type 0 where
  pub members : (inv : Invariant)
      → Contains (listed kinds log) inv ↔ IsListed kinds (length log.types) (words_of log) inv
  pub order : AreInOrder kinds log
  pub once : AreOnce kinds log
  pub named : AllByRecursion (λ inv. ((inv.a ≡ INITIAL) ⊎ HasText log.types inv.a) × HasText log.types inv.b)
      (listed kinds log)

-- the answer: the listed invariants, one per line, which are exactly those that hold
pub record Answers (kinds : Kinds) (m : Material) (r : Result Answer LimitKind) : Type 0 where
  pub value : r ≡ Ok (done (invariant_report m.log.types (listed kinds m.log)))
  pub exact : ListsExactly kinds m.log
