use Rattle.std.proofs.Common.{◌≡◌, ◌≢◌, ◌≤◌, ◌+◌, ℕ, List, sym, ◌∙◌, subst, arith}
use Rattle.model_check.specs.declared.sets.TheConstants.{NEXT, SPARE, LOOSE, KEPT, ROOM}
use Rattle.model_check.specs.Rows.{bit}
use Rattle.model_check.specs.Successors.{in_set, AreSuccessors, IsSet, Leads}
use Rattle.model_check.proofs.Numbers.{Agree, row-set}
use Rattle.model_check.proofs.Stepping.{leads-next, successors-stay, successors-more}
use Rattle.model_check.proofs.steps.number_next.Goals as goal

pub returns-in-Some-clause-successors : goal.returns-in-Some-clause-successors
returns-in-Some-clause-successors c =
    let old = c.args.rows.now in
    let new = c.find.new.rows in
    let kept : ℕ = c.args.successors.now.kept in
    let next : ℕ = c.in-Some.next in
    let few : kept ≤ ROOM = c.args.successors.now.room in
    let same : kept ≤ kept = omega arith in
    let agree : Agree old new kept = λ r k l n s. c.find.ensures.others r k s in
    let above : KEPT ≤ next = c.in-Some.ensures.row in
    let apart : next ≢ SPARE = omega arith in
    let number : IsSet kept next = (c.in-Some.ensures.kept, λ m. above) in
    let set : (q : ℕ) → in_set new next q ≡ bit old NEXT q = λ q. row-set new next q (omega arith) ∙ c.find.ensures.others next q apart ∙ c.in-Some.ensures.set q in
    let leads : c.args.set ≢ LOOSE → Leads new kept c.args.set c.args.typ next = λ tight.
    leads-next old new kept kept c.args.set c.args.typ next few same c.requires.typ agree (c.requires.kept tight) number
    (λ q. (λ e. (c.requires.next q).0 (sym (set q) ∙ e), λ o. set q ∙ (c.requires.next q).1 o)) in
    subst (AreSuccessors new c.put.new.self.numbers.items) (sym c.put.ensures.kept)
    (successors-more new c.args.successors.now.numbers.items c.put.new.self.numbers.items kept c.args.set c.args.typ next c.put.ensures.numbers leads
    (successors-stay old new c.args.successors.now.numbers.items kept kept few same agree c.requires.successors))

pub returns-clause-successors : goal.returns-clause-successors
returns-clause-successors c =
    let old = c.args.rows.now in
    let new = c.keep-next.new.rows in
    let kept : ℕ = c.args.successors.now.kept in
    let more : ℕ = c.keep-next.new.self.kept in
    let next : ℕ = c.keep-next.result in
    let at : next ≡ KEPT + kept = c.keep-next.ensures.number in
    let one : more ≡ kept + 1 = c.keep-next.ensures.kept in
    let few : kept ≤ ROOM = c.args.successors.now.room in
    let less : kept ≤ more = omega arith in
    let agree : Agree old new kept = λ r k l n s.
    let other : r ≢ next = omega arith in
    c.keep-next.ensures.others r k other ∙ c.find.ensures.others r k s in
    let number : IsSet more next = (omega arith, λ m. omega arith) in
    let apart : NEXT ≢ SPARE = omega arith in
    let set : (q : ℕ) → in_set new next q ≡ bit old NEXT q = λ q. row-set new next q (omega arith) ∙ c.keep-next.ensures.set q ∙ c.find.ensures.others NEXT q apart in
    let leads : c.args.set ≢ LOOSE → Leads new more c.args.set c.args.typ next = λ tight.
    leads-next old new kept more c.args.set c.args.typ next few less c.requires.typ agree (c.requires.kept tight) number
    (λ q. (λ e. (c.requires.next q).0 (sym (set q) ∙ e), λ o. set q ∙ (c.requires.next q).1 o)) in
    subst (AreSuccessors new c.put-2.new.self.numbers.items) (sym c.put-2.ensures.kept)
    (successors-more new c.keep-next.new.self.numbers.items c.put-2.new.self.numbers.items more c.args.set c.args.typ next c.put-2.ensures.numbers leads
    (subst (λ (xs : List ℕ). AreSuccessors new xs more) (sym c.keep-next.ensures.numbers) (successors-stay old new c.args.successors.now.numbers.items kept more few less agree c.requires.successors)))
