-- Sets of ids by their numbers.
use Rattle.std.proofs.Common.{◌≡◌, ◌≢◌, ℕ, ◌+◌, ◌<◌, ◌≤◌, ◌==◌, true, refl, sym, ◌∙◌, inl, inr, arith, true≢false, eqb-true, lt-ltb, le-ltb}
use Rattle.std.proofs.lemmas.Bool.{cases_lt}
use Rattle.limits.specs.declared.TheConstants.{MAX_PARTITIONS}
use Rattle.model_check.specs.declared.rows.IdRows.{IdRows}
use Rattle.model_check.specs.declared.sets.TheConstants.{MEMBERS, NEXT, SPARE, KEPT, ROOM, ROWS, TYPES}
use Rattle.model_check.specs.Rows.{bit}
use Rattle.model_check.specs.Successors.{in_set, IsEnteredFrom, IsSet}
use Rattle.model_check.proofs.Bits.{none-past}

-- an id that is on has a place in the row
pub bit-within : (rows : IdRows) (r q : ℕ) → r < ROWS → bit rows r q ≡ true → q < MAX_PARTITIONS
bit-within rows r q h e =
    elim (cases_lt q MAX_PARTITIONS) [
      | inl l ↦ l
      | inr p ↦ absurd (true≢false (sym e ∙ none-past rows r q h p))
    ]

-- the set of an id has this id alone
pub one-set : (rows : IdRows) (set q : ℕ) → set < MAX_PARTITIONS → in_set rows set q ≡ (q == set)
one-set rows set q l = rw (lt-ltb set MAX_PARTITIONS l) refl

-- any other set lies in its row
pub row-set : (rows : IdRows) (set q : ℕ) → MAX_PARTITIONS ≤ set → in_set rows set q ≡ bit rows set q
row-set rows set q l = rw (le-ltb set MAX_PARTITIONS l) refl

-- where more are kept, a number is still that of a set
pub set-more : (few many set : ℕ) → few ≤ many → IsSet few set → IsSet many set
set-more few many set l s =
    let a : set < KEPT + few = s.0 in
    (omega arith, s.1)

-- an id of a set has a place in the rows
pub set-within : (rows : IdRows) (kept set p : ℕ) → kept ≤ ROOM + 1 → IsSet kept set → in_set rows set p ≡ true → p < MAX_PARTITIONS
set-within rows kept set p few s e =
    let a : set < KEPT + kept = s.0 in
    elim (cases_lt set MAX_PARTITIONS) [
      | inl l ↦
          let same : p ≡ set = eqb-true p set (sym (one-set rows set p l) ∙ e) in
          omega arith
      | inr m ↦ bit-within rows set p (omega arith) (sym (row-set rows set p m) ∙ e)
    ]

-- rows agree on the graph and on the sets that are kept
abbrev pub Agree : IdRows → IdRows → ℕ → Type 0
Agree old new kept = (r k : ℕ) → r < KEPT + kept → r ≢ NEXT → r ≢ SPARE → bit new r k ≡ bit old r k

-- so does the one with the other
pub agree-back : (old new : IdRows) (kept : ℕ) → Agree old new kept → Agree new old kept
agree-back old new kept a r k l n s = sym (a r k l n s)

-- a set is the same in both
pub set-agrees : (old new : IdRows) (kept set q : ℕ) → Agree old new kept → IsSet kept set → in_set new set q ≡ in_set old set q
set-agrees old new kept set q agree s =
    elim (cases_lt set MAX_PARTITIONS) [
      | inl l ↦ one-set new set q l ∙ sym (one-set old set q l)
      | inr m ↦
          let above : KEPT ≤ set = s.1 m in
          row-set new set q m ∙ agree set q s.0 (omega arith) (omega arith) ∙ sym (row-set old set q m)
    ]

-- and what is entered from it
pub entered-agrees : (old new : IdRows) (kept set typ q : ℕ) → kept ≤ ROOM + 1 → typ < TYPES → Agree old new kept → IsSet kept set
    → IsEnteredFrom (in_set old set) old typ q → IsEnteredFrom (in_set new set) new typ q
entered-agrees old new kept set typ q few m agree s o =
    let l : o.0 < MAX_PARTITIONS = set-within old kept set o.0 few s o.1 in (
      o.0,
      set-agrees old new kept set o.0 agree s ∙ o.1,
      agree o.0 q (omega arith) (omega arith) (omega arith) ∙ o.2,
      agree (MEMBERS + typ) q (omega arith) (omega arith) (omega arith) ∙ o.3,
    )
