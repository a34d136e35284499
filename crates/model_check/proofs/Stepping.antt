-- The numbers that are known of the steps from one set to the next.
use Rattle.std.proofs.Common.{◌≡◌, ◌≢◌, ◌↔◌, ℕ, ◌+◌, ◌*◌, ◌<◌, ◌≤◌, ◌⊎◌, true, List, get_or, replicate, sym, ◌∙◌, ap, subst, inl, inr, arith}
use Rattle.model_check.specs.declared.rows.IdRows.{IdRows}
use Rattle.model_check.specs.declared.sets.TheConstants.{LOOSE, ROOM, ROWS, TYPES}
use Rattle.model_check.specs.Successors.{known, in_set, AreSuccessors, IsEnteredFrom, IsSet, Leads}
use Rattle.model_check.proofs.Numbers.{Agree, agree-back, set-more, set-agrees, entered-agrees}
use Rattle.model_check.proofs.Tabling.{zeros}

-- where all is 0, nothing is known
pub nothing-known : (n : ℕ) (numbers : List ℕ) → numbers ≡ replicate n 0 → (s t : ℕ) → known numbers s t ≡ 0
nothing-known n numbers e s t = ap (λ xs. get_or xs (t * ROWS + s) 0) e ∙ zeros n (t * ROWS + s)

-- where nothing is known, all that is known is right
pub none-known-right : (rows : IdRows) (numbers : List ℕ) (kept : ℕ) → ((s t : ℕ) → known numbers s t ≡ 0) → AreSuccessors rows numbers kept
none-known-right rows numbers kept none s t r l h = absurd (let z : known numbers s t ≡ 0 = none s t in omega arith)

-- what is entered is the next set, also in rows that agree with those of before
pub leads-next : (old new : IdRows) (few many set typ next : ℕ) → few ≤ ROOM → few ≤ many → typ < TYPES → Agree old new few → IsSet few set → IsSet many next
    → ((q : ℕ) → (in_set new next q ≡ true) ↔ IsEnteredFrom (in_set old set) old typ q) → Leads new many set typ next
leads-next old new few many set typ next small more m agree s n entered =
    let wide : few ≤ ROOM + 1 = omega arith in
    record {
      from = set-more few many set more s;
      to = n;
      entered = λ q. (
        λ e. entered-agrees old new few set typ q wide m agree s ((entered q).0 e),
        λ o. (entered q).1 (entered-agrees new old few set typ q wide m (agree-back old new few agree) s o),
      );
    }

-- what is known stays right in rows that agree, where more are kept
pub successors-stay : (old new : IdRows) (numbers : List ℕ) (few many : ℕ) → few ≤ ROOM → few ≤ many → Agree old new few → AreSuccessors old numbers few → AreSuccessors new numbers many
successors-stay old new numbers few many small more agree a s t r l h =
    let d : Leads old few s t (known numbers s t) = a s t r l h in
    leads-next old new few many s t (known numbers s t) small more l agree d.from (set-more few many (known numbers s t) more d.to)
    (λ q. (
      λ e. (d.entered q).0 (sym (set-agrees old new few (known numbers s t) q agree d.to) ∙ e),
      λ o. set-agrees old new few (known numbers s t) q agree d.to ∙ (d.entered q).1 o,
    ))

-- and with the number of one next set more
pub successors-more : (rows : IdRows) (old new : List ℕ) (kept set typ next : ℕ)
    → ((s t : ℕ) → s < ROWS → (known new s t ≡ known old s t) ⊎ ((s ≡ set) × (t ≡ typ) × (known new s t ≡ next) × (set ≢ LOOSE)))
    → (set ≢ LOOSE → Leads rows kept set typ next) → AreSuccessors rows old kept → AreSuccessors rows new kept
successors-more rows old new kept set typ next put right a s t r l h =
    elim (put s t r) [
      | inl same ↦
          let some : 0 < known old s t = omega arith in
          subst (λ x. Leads rows kept s t x) (sym same) (a s t r l some)
      | inr o ↦
          let one : Leads rows kept s typ next = subst (λ x. Leads rows kept x typ next) (sym o.0) (right o.3) in
          let two : Leads rows kept s t next = subst (λ x. Leads rows kept s x next) (sym o.1) one in
          subst (λ x. Leads rows kept s t x) (sym o.2) two
    ]
