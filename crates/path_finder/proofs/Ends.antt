-- The pairs of TERMINAL, from which the search begins.
use Rattle.std.proofs.Common.{◌≡◌, ◌==◌, ◌≤◌, ◌+◌, ◌*◌, ◌/◌, ◌%◌, ℕ, true, List, length, replicate, sym, ap, ◌∙◌, inl, inr, get_or, arith}
use Rattle.std.proofs.lemmas.Bool.{cases_eq, cases_lt, true≢false}
use Rattle.std.proofs.lemmas.List.{get_or-replicate, length-replicate}
use Rattle.std.proofs.lemmas.List.Sums.{count_by-le-length}
use Rattle.std.proofs.lemmas.Nat.{div-add-mod'}
use Rattle.std.proofs.lemmas.Nat.Bits.{bit_at-pow_other}
use Rattle.invariants.specs.Monitors.{is_bad}
use Rattle.path_finder.specs.declared.pair.TheConstants.{STATES}
use Rattle.path_finder.specs.declared.table.TheConstants.{OPEN}
use Rattle.path_finder.specs.declared.pair.Pair.{Pair}
use Rattle.path_finder.specs.declared.pair_set.PairSet.{PairSet}
use Rattle.path_finder.specs.Levels.{HasEndsBelow, HasEntered, IsDue}
use Rattle.path_finder.specs.PairSets.{IsAdded, IsEmptySet, IsMarked}
use Rattle.path_finder.specs.Tables.{Entries, at}
use Rattle.path_finder.specs.Walks.{Asked, IsPairOf}
use Rattle.path_finder.proofs.Entering.{place_within}
use Rattle.path_finder.proofs.Levels.{first-due, no-pair}
use Rattle.path_finder.proofs.PairSets.{on}

-- the bit of TERMINAL is the only one that is on
only-bit : (i : ℕ) → on 2 i ≡ true → i ≡ 1
only-bit i e = elim (cases_eq i 1) [
  | inl same ↦ same
  | inr other ↦ absurd (true≢false (sym e ∙ ap (λ (b : ℕ). b == 1) (bit_at-pow_other 1 i other)))
]

-- TERMINAL in one bad state more
pub ends-more : (a : Asked) (state : ℕ) (old new : PairSet) → HasEndsBelow a state old → IsMarked new → IsAdded old new (record { state = state; place = 0; word = 2 }) → is_bad a.inv state ≡ true → HasEndsBelow a (state + 1) new
ends-more a state old new ends marked added bad =
    record {
      marked = marked;
      ends = λ r is. elim (added.others r is.id is.has) [
        | inl was ↦ ends.ends r (record { state = is.state; id = is.id; has = was })
        | inr among ↦ (
          omega (arith, among.place, only-bit (r.id % 64) among.bit, div-add-mod' r.id 64),
          ap (λ (s : ℕ). is_bad a.inv s) among.state ∙ bad,
        )
      ];
      all = λ r id low b. elim (cases_lt r.state state) [
        | inl before ↦ added.kept r (ends.all r id before b)
        | inr here ↦ added.added r (record { state = omega (arith, low, here); place = ap (λ (n : ℕ). n / 64) id; bit = ap (λ (n : ℕ). on 2 (n % 64)) id })
      ];
    }

-- a pair is open where all are
pub stands-open : (a : Asked) (e : Entries) (r : Pair) → e.distances ≡ replicate (a.ids * STATES) OPEN → IsPairOf a r → at e r ≡ OPEN
stands-open a e r is p = ap (λ (xs : List ℕ). get_or xs (r.id * STATES + r.state) 0) is ∙ get_or-replicate (a.ids * STATES) (r.id * STATES + r.state) OPEN 0 (place_within a r p)

-- no pair was entered yet
pub none-entered : (a : Asked) (e : Entries) (n : PairSet) → e.distances ≡ replicate (a.ids * STATES) OPEN → IsEmptySet n → HasEntered a e n
none-entered a e n is empty =
    record {
      sound = λ r has. absurd (no-pair n r empty has);
      whole = λ r p k. absurd (omega (arith, k, stands-open a e r is p));
    }

-- the first level is due over a table in which all pairs are open
pub begins : (a : Asked) (e : Entries) (f : PairSet) → 2 ≤ a.ids → e.distances ≡ replicate (a.ids * STATES) OPEN → HasEndsBelow a 3 f → IsDue a 0 e f
begins a e f two is ends =
    let long : length e.distances ≡ a.ids * STATES = ap (λ (xs : List ℕ). length xs) is ∙ length-replicate (a.ids * STATES) OPEN in
    first-due a e f two long
    (λ r p. stands-open a e r is p)
    (omega (arith, count_by-le-length (λ x. x == OPEN) e.distances, long))
    ends
