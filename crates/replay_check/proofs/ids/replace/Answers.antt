use Rattle.std.proofs.Common.{◌≡◌, ℕ, List, map, length, sym, ◌∙◌, ap, arith}
use Rattle.std.proofs.lemmas.List.{get_or-map, length-map}
use Rattle.partition_model.specs.Coarsening.{onto}
use Rattle.replay_check.proofs.Same.{partly-first, partly-more, partly-all}
use Rattle.replay_check.proofs.ids.replace.Goals as goal

pub loop-k-init : goal.loop-k-init
loop-k-init c = partly-first c.args.numbers.now (map (λ y. onto c.args.p c.args.q y) c.args.numbers.now)

pub loop-k-preserved : goal.loop-k-preserved
loop-k-preserved c =
    let old : List ℕ = c.args.numbers.now in
    let size : length c.loop-k.numbers ≡ length old = c.loop-k.invariant.size in
    partly-more old c.loop-k.numbers (map (λ y. onto c.args.p c.args.q y) old) c.loop-k.k c.onto.result (omega (arith, c.loop-k-test.true))
    (c.onto.ensures ∙ ap (λ y. onto c.args.p c.args.q y) (c.loop-k.invariant.after c.loop-k.k (omega arith)) ∙ sym (get_or-map (λ y. onto c.args.p c.args.q y) old c.loop-k.k 0 0 (omega (arith, c.loop-k-test.true))))
    c.loop-k.invariant

pub returns : goal.returns
returns c =
    let old : List ℕ = c.args.numbers.now in
    partly-all old c.loop-k.numbers (map (λ y. onto c.args.p c.args.q y) old) c.loop-k.k (length-map old (λ y. onto c.args.p c.args.q y)) (omega (arith, c.loop-k-test.false)) c.loop-k.invariant
