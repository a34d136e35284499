use Rattle.std.proofs.Common.{ℕ, ◌+◌, List, [], ◌∷◌, ◌++◌, filter, cond, append-nil, arith, ap, sym, ◌∙◌}
use Rattle.std.proofs.lemmas.Bool.{eq-eqb, ne_eqb}
use Rattle.invariants.specs.declared.Kind.TheVariants.{IB}
use Rattle.invariants.specs.declared.Invariant.{Invariant}
use Rattle.invariants.specs.Candidates.{invariant}
use Rattle.invariants.specs.Mined.{holds_of_all}
use Rattle.closure_miner.specs.Standing.{of_interrupted}
use Rattle.closure_miner.proofs.Lists.{one-added}
use Rattle.closure_miner.proofs.standing.Standing.push_between.Goals as goal

pub returns-in-Three : goal.returns-in-Three
returns-in-Three g c = λ words st.
    let old : List Invariant = c.args.list.now.items in
    sym (ap (λ k. old ++ filter (holds_of_all words) (of_interrupted k (c.args.a + 2) (c.args.b + 2))) c.in-Three.is ∙ append-nil old)

pub returns-then-a-b : goal.returns-then-a-b
returns-then-a-b g c = λ words st.
    let old : List Invariant = c.args.list.now.items in
    let other : List Invariant = invariant IB (c.args.a + 2) (c.args.b + 2) ∷ [] in
    sym (ap (λ k. old ++ filter (holds_of_all words) (of_interrupted k (c.args.a + 2) (c.args.b + 2))) c.in-Four.is
    ∙ ap (λ t. old ++ filter (holds_of_all words) (cond t [] other)) (eq-eqb (c.args.a + 2) (c.args.b + 2) (omega arith)) ∙ append-nil old)

pub returns : goal.returns
returns g c = λ words st.
    let self = c.args.self.now in
    let p = holds_of_all words in
    let a : ℕ = c.args.a + 2 in
    let b : ℕ = c.args.b + 2 in
    let old : List Invariant = c.args.list.now.items in
    let one : List Invariant = invariant IB a b ∷ [] in
    one-added p IB a b c.number_of.result c.number_of-2.result c.has-between.result [] old c.push_standing.new.list.items c.push_standing.new.list.items
    c.number_of.ensures c.number_of-2.ensures
    (c.has-between.ensures ∙ st.between c.in-Four.is c.args.a c.args.b c.requires.a c.requires.b)
    c.in_ok-push_standing.ensures (sym (append-nil c.push_standing.new.list.items))
    ∙ sym (ap (λ k. old ++ filter p (of_interrupted k a b)) c.in-Four.is
    ∙ ap (λ t. old ++ filter p (cond t [] one)) (ne_eqb a b (λ e. c.if-a-b.false (omega arith))))
