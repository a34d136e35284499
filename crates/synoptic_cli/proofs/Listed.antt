-- The mined invariants of a log list exactly what holds of it.
use Rattle.std.proofs.Common.{◌≡◌, ◌⊎◌, ℕ, ◌+◌, ◌-◌, ◌<◌, ◌≤◌, List, [], length, is_some, Some, Contains, ap, ◌∙◌, ⊎_elim, inl, inr, arith}
use Rattle.std.specs.Prelude.{slice_get}
use Rattle.std.proofs.lemmas.Bool.{cases_lt}
use Rattle.std.proofs.lemmas.Option.{get_or_from_slice_get, slice_get-get_or, slice_get_within}
use Rattle.traces.specs.Words.{Log, words_of}
use Rattle.invariants.specs.Candidates.{CandidatesTell, IsFirst, IsPair, candidates_for}
use Rattle.invariants.specs.Mined.{MinedKeepsOrder, MinedTells}
use Rattle.invariants.specs.declared.Invariant.{Invariant}
use Rattle.invariants.specs.declared.Kinds.{Kinds}
use Rattle.synoptic_cli.specs.Commands.TypeNames.{HasText}
use Rattle.synoptic_cli.specs.Commands.PrintInvariants.{AreInOrder, AreOnce, ListsExactly, listed}
use Rattle.synoptic_cli.proofs.Found.{all-members}

-- a member stands somewhere
member-at : {X : Type 0} (xs : List X) (x : X) → Contains xs x → (k : ℕ) × (slice_get xs k ≡ Some x)
member-at xs x c = (c.0, slice_get-get_or xs c.0 x c.1 ∙ ap Some c.2)

at-member : {X : Type 0} (xs : List X) (k : ℕ) (x : X) → slice_get xs k ≡ Some x → Contains xs x
at-member xs k x at = (k, slice_get_within xs k x at, get_or_from_slice_get xs k x x at)

-- an invariant that stood at two places would be two candidates, one before the other
never-twice : (kinds : Kinds) (log : Log) → MinedTells → AreInOrder kinds log → (j k : ℕ) (inv : Invariant) → slice_get (listed kinds log) j ≡ Some inv → slice_get (listed kinds log) k ≡ Some inv → j < k → ⊥
never-twice kinds log tells order j k inv at-j at-k before =
    let place = member-at (candidates_for kinds (length log.types)) inv (((tells kinds (length log.types) (words_of log) inv).0 (at-member (listed kinds log) j inv at-j)).candidate) in
    let turned : place.0 < place.0 = order j k place.0 place.0 inv inv at-j at-k place.1 place.1 before in
    absurd (omega (arith, turned))

once : (kinds : Kinds) (log : Log) → MinedTells → AreInOrder kinds log → AreOnce kinds log
once kinds log tells order j k inv at-j at-k =
    ⊎_elim
    (λ (before : j < k). absurd (never-twice kinds log tells order j k inv at-j at-k before))
    (λ (not-before : k ≤ j). ⊎_elim
    (λ (after : k < j). absurd (never-twice kinds log tells order k j inv at-k at-j after))
    (λ (not-after : j ≤ k). omega (arith, not-before, not-after))
    (cases_lt k j))
    (cases_lt j k)

-- a number of a type is that of a text
has-text : (types : List (List ℕ)) (typ : ℕ) → 2 ≤ typ → typ < length types + 2 → HasText types typ
has-text types typ low high =
    let i : typ - 2 < length types = omega arith in
    (low, ap is_some (slice_get-get_or types (typ - 2) [] i))

candidate-named : (kinds : Kinds) (types : List (List ℕ)) (inv : Invariant) → IsFirst (length types) inv ⊎ IsPair kinds (length types) inv → ((inv.a ≡ 0) ⊎ HasText types inv.a) × HasText types inv.b
candidate-named kinds types inv forms =
    ⊎_elim
    (λ (first : IsFirst (length types) inv). (inl first.a, has-text types inv.b first.b_low first.b_high))
    (λ (pair : IsPair kinds (length types) inv). (inr (has-text types inv.a pair.a_low pair.a_high), has-text types inv.b pair.b_low pair.b_high))
    forms

-- the listed invariants are exactly those that hold, in order and none twice, and their types but INITIAL have texts
pub lists-exactly : MinedTells → MinedKeepsOrder → CandidatesTell → (kinds : Kinds) (log : Log) → ListsExactly kinds log
lists-exactly tells keeps forms kinds log =
    let count = length log.types in
    let order : AreInOrder kinds log = keeps kinds count (words_of log) in
    record {
      members = tells kinds count (words_of log);
      order = order;
      once = once kinds log tells order;
      named =
          all-members (λ (inv : Invariant). ((inv.a ≡ 0) ⊎ HasText log.types inv.a) × HasText log.types inv.b) (listed kinds log)
          (λ inv c. candidate-named kinds log.types inv ((forms kinds count inv).0 (((tells kinds count (words_of log) inv).0 c).candidate)));
    }
