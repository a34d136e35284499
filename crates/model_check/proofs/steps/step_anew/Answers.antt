use Rattle.std.proofs.Common.{◌≡◌, ◌↔◌, ◌≢◌, ◌<◌, ◌≤◌, ◌==◌, ℕ, true, List, sym, ◌∙◌, subst, arith, eqb-true, eq-eqb}
use Rattle.limits.specs.declared.TheConstants.{MAX_PARTITIONS}
use Rattle.model_check.specs.declared.rows.IdRows.{IdRows}
use Rattle.model_check.specs.declared.sets.TheConstants.{LOOSE, ROOM}
use Rattle.model_check.specs.Successors.{in_set, AreSuccessors, IsEnteredFrom, IsSet, Leads}
use Rattle.model_check.proofs.Numbers.{Agree, one-set}
use Rattle.model_check.proofs.Stepping.{leads-next, successors-stay, successors-more}
use Rattle.model_check.proofs.steps.step_anew.Goals as goal
use Rattle.model_check.proofs.steps.step_anew.Goals.{In-Some}

-- the only id of the next set is all that is entered
entered : (c : In-Some) → (q : ℕ) → (in_set c.advance.new.rows c.in-Some.p q ≡ true) ↔ IsEnteredFrom (in_set c.args.rows.now c.args.set) c.args.rows.now c.args.typ q
entered c q =
    let p : ℕ = c.in-Some.p in
    let l : p < MAX_PARTITIONS = c.in-Some.ensures.within in
    let here : in_set c.advance.new.rows p q ≡ (q == p) = one-set c.advance.new.rows p q l in (
      λ e. (c.advance.ensures.next q).0 ((c.in-Some.ensures.only q).1 (eqb-true q p (sym here ∙ e))),
      λ o. here ∙ eq-eqb q p ((c.in-Some.ensures.only q).0 ((c.advance.ensures.next q).1 o)),
    )

pub returns-in-Some-clause-set : goal.returns-in-Some-clause-set
returns-in-Some-clause-set c = entered ((goal.at.returns-in-Some-clause-set c).In-Some)

pub returns-in-Some-clause-successors : goal.returns-in-Some-clause-successors
returns-in-Some-clause-successors c =
    let a = goal.at.returns-in-Some-clause-successors c in
    let old = c.args.rows.now in
    let new = c.advance.new.rows in
    let kept : ℕ = c.args.successors.now.kept in
    let p : ℕ = c.in-Some.p in
    let l : p < MAX_PARTITIONS = c.in-Some.ensures.within in
    let few : kept ≤ ROOM = c.args.successors.now.room in
    let same : kept ≤ kept = omega arith in
    let agree : Agree old new kept = λ r k l n s. c.advance.ensures.others r k n in
    let number : IsSet kept p = (omega arith, λ m. absurd (let h : MAX_PARTITIONS ≤ p = m in omega arith)) in
    let leads : c.args.set ≢ LOOSE → Leads new kept c.args.set c.args.typ p = λ tight.
    leads-next old new kept kept c.args.set c.args.typ p few same c.requires.typ agree (c.requires.kept tight) number (entered (a.In-Some)) in
    subst (AreSuccessors new c.put.new.self.numbers.items) (sym c.put.ensures.kept)
    (successors-more new c.args.successors.now.numbers.items c.put.new.self.numbers.items kept c.args.set c.args.typ p c.put.ensures.numbers leads
    (successors-stay old new c.args.successors.now.numbers.items kept kept few same agree c.requires.successors))

-- what is known stays right where the numbers stay and the rows agree
stays : (old new : IdRows) (numbers now : List ℕ) (kept more : ℕ) → kept ≤ ROOM → Agree old new kept → now ≡ numbers → more ≡ kept → AreSuccessors old numbers kept → AreSuccessors new now more
stays old new numbers now kept more few agree e f a =
    let same : kept ≤ kept = omega arith in
    subst (λ (xs : List ℕ). AreSuccessors new xs more) (sym e) (subst (AreSuccessors new numbers) (sym f) (successors-stay old new numbers kept kept few same agree a))

pub returns-then-goes_on_without-clause-successors : goal.returns-then-goes_on_without-clause-successors
returns-then-goes_on_without-clause-successors c =
    let kept : ℕ = c.args.successors.now.kept in
    let few : kept ≤ ROOM = c.args.successors.now.room in
    let agree : Agree c.args.rows.now c.copy.new.self kept = λ r k l n s.
    let other : r ≢ LOOSE = omega arith in
    c.copy.ensures.others r k other ∙ c.advance.ensures.others r k n in
    stays c.args.rows.now c.copy.new.self c.args.successors.now.numbers.items c.goes_on_without.new.self.numbers.items kept c.goes_on_without.new.self.kept few agree
    c.goes_on_without.ensures.numbers c.goes_on_without.ensures.kept c.requires.successors

pub number_next-requires-clause-successors : goal.number_next-requires-clause-successors
number_next-requires-clause-successors c =
    let kept : ℕ = c.args.successors.now.kept in
    let agree : Agree c.args.rows.now c.advance.new.rows kept = λ r k l n s. c.advance.ensures.others r k n in
    stays c.args.rows.now c.advance.new.rows c.args.successors.now.numbers.items c.goes_on_without.new.self.numbers.items kept c.goes_on_without.new.self.kept c.args.successors.now.room agree
    c.goes_on_without.ensures.numbers c.goes_on_without.ensures.kept c.requires.successors
