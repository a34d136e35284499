-- The ids of a type, by its row.
use Rattle.std.proofs.Common.{◌≡◌, ◌≢◌, ℕ, ◌+◌, ◌<◌, ◌≤◌, true≢false, false, List, get_or, Option, None, Some, MatchOption, sym, ◌∙◌, eq-eqb, eqb-true}
use Rattle.limits.specs.declared.TheConstants.{INITIAL, MAX_PARTITIONS}
use Rattle.model_check.specs.declared.rows.IdRows.{IdRows}
use Rattle.model_check.specs.declared.sets.TheConstants.{MEMBERS, TYPES}
use Rattle.model_check.specs.Rows.{bit, IsLaid, IsNextIn, IsNextOfType}

-- the next id in the row of a type is the next id of this type
pub typed-next : (types : List ℕ) (rows : IdRows) (typ from : ℕ) (found : Option ℕ) → IsLaid types rows → INITIAL < typ → typ < TYPES
    → MatchOption found ((q : ℕ) → from ≤ q → bit rows (MEMBERS + typ) q ≡ false) (IsNextIn rows (MEMBERS + typ) from)
    → MatchOption found ((q : ℕ) → from ≤ q → q < MAX_PARTITIONS → get_or types q 0 ≢ typ) (IsNextOfType (λ q. get_or types q 0) typ from)
typed-next types rows typ from None laid low high none = λ q l w e. true≢false (sym (laid.members typ q low high ∙ eq-eqb (get_or types q 0) typ e) ∙ none q l)
typed-next types rows typ from (Some p) laid low high next =
    record {
      behind = next.behind;
      within = next.within;
      there = eqb-true (get_or types p 0) typ (sym (laid.members typ p low high) ∙ next.set);
      first = λ q l w e. true≢false (sym (laid.members typ q low high ∙ eq-eqb (get_or types q 0) typ e) ∙ next.first q l w);
    }
