use Rattle.std.proofs.Common.{◌≡◌, ◌<◌, ℕ, List, map, get_or, length, sym, ◌∙◌, ap, subst, arith}
use Rattle.std.proofs.lemmas.List.{get_or-map, length-map}
use Rattle.limits.specs.declared.TheConstants.{MAX_PARTITIONS}
use Rattle.std.specs.List.{All}
use Rattle.replay_check.proofs.Showing.{image-within}
use Rattle.replay_check.proofs.Same.{partly-first, partly-more, partly-all}
use Rattle.replay_check.proofs.ids.rename.Goals as goal

pub loop-k-init : goal.loop-k-init
loop-k-init c = partly-first c.args.ids.now (map (λ y. get_or c.args.names.now y 0) c.args.ids.now)

pub bounds-names-from : goal.bounds-names-from
bounds-names-from c =
    let size : length c.loop-k.ids ≡ length c.args.ids.now = c.loop-k.invariant.size in
    let same : get_or c.loop-k.ids c.loop-k.k 0 ≡ get_or c.args.ids.now c.loop-k.k 0 = c.loop-k.invariant.after c.loop-k.k (omega arith) in
    let within : get_or c.args.ids.now c.loop-k.k 0 < MAX_PARTITIONS = c.requires.within c.loop-k.k 0 (omega (arith, c.loop-k-test.true)) in
    omega arith

pub loop-k-preserved : goal.loop-k-preserved
loop-k-preserved c =
    let old : List ℕ = c.args.ids.now in
    let size : length c.loop-k.ids ≡ length old = c.loop-k.invariant.size in
    let from : c.from.result ≡ get_or c.loop-k.ids c.loop-k.k 0 = c.from.ensures in
    partly-more old c.loop-k.ids (map (λ y. get_or c.args.names.now y 0) old) c.loop-k.k (get_or c.args.names.now c.from.result 0) (omega (arith, c.loop-k-test.true))
    (ap (λ y. get_or c.args.names.now y 0) (from ∙ c.loop-k.invariant.after c.loop-k.k (omega arith)) ∙ sym (get_or-map (λ y. get_or c.args.names.now y 0) old c.loop-k.k 0 0 (omega (arith, c.loop-k-test.true))))
    c.loop-k.invariant

pub returns-clause-ids : goal.returns-clause-ids
returns-clause-ids c =
    let old : List ℕ = c.args.ids.now in
    partly-all old c.loop-k.ids (map (λ y. get_or c.args.names.now y 0) old) c.loop-k.k (length-map old (λ y. get_or c.args.names.now y 0)) (omega (arith, c.loop-k-test.false)) c.loop-k.invariant

pub returns-clause-within : goal.returns-clause-within
returns-clause-within c =
    let old : List ℕ = c.args.ids.now in
    subst (λ (xs : List ℕ). All (λ p. p < MAX_PARTITIONS) xs) (sym (partly-all old c.loop-k.ids (map (λ y. get_or c.args.names.now y 0) old) c.loop-k.k (length-map old (λ y. get_or c.args.names.now y 0)) (omega (arith, c.loop-k-test.false)) c.loop-k.invariant))
    (image-within MAX_PARTITIONS c.args.names.now old c.requires.names (omega arith))
