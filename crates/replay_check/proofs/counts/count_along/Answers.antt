use Rattle.std.proofs.Common.{◌≡◌, ◌+◌, ◌<◌, ◌∷◌, ◌*◌, ℕ, List, drop, get_or, length, refl, zero-add, ◌∙◌, ap, arith}
use Rattle.std.proofs.lemmas.List.{drop_more, drop_all}
use Rattle.limits.specs.declared.TheConstants.{MAX_PARTITIONS}
use Rattle.replay_check.specs.Shown.{count_at, HasRow}
use Rattle.replay_check.specs.Laid.{step_count}
use Rattle.replay_check.proofs.Counting.{steps, steps-few, steps-next, steps-end}
use Rattle.replay_check.proofs.counts.count_along.Goals as goal

pub loop-id-init : goal.loop-id-init
loop-id-init c =
    record {
      row = c.requires.ends;
      size = refl;
      counted = λ p q m. ap (λ n. n + steps p q (1 ∷ c.args.ids.now)) (c.requires.zeros (p * MAX_PARTITIONS + q)) ∙ zero-add (steps p q (1 ∷ c.args.ids.now));
    }

pub count_step-requires-clause-few : goal.count_step-requires-clause-few
count_step-requires-clause-few c =
    let from : c.from.result ≡ get_or c.args.ids.now c.loop-id.id-index 0 = c.from.ensures in
    let here : get_or c.args.ids.now c.loop-id.id-index 0 < MAX_PARTITIONS = c.requires.within c.loop-id.id-index 0 c.loop-id-test.true in
    let e = c.loop-id.invariant.counted c.loop-id.before c.from.result (omega arith) in
    let f = steps-few c.loop-id.before c.from.result 1 c.args.ids.now in
    omega arith

pub loop-id-preserved : goal.loop-id-preserved
loop-id-preserved c =
    let ids : List ℕ = c.args.ids.now in
    let i : ℕ = c.loop-id.id-index in
    let id : ℕ = get_or ids i 0 in
    let from : c.from.result ≡ id = c.from.ensures in
    let from2 : c.from-before.result ≡ id = c.from-before.ensures in
    let row : HasRow c.args.counts.now id = c.requires.rows i 0 c.loop-id-test.true in
    let size : length c.loop-id.counts ≡ length c.args.counts.now = c.loop-id.invariant.size in
    let same : length c.count_step.new.counts ≡ length c.loop-id.counts = c.count_step.ensures.size in
    record {
      row = omega arith;
      size = same ∙ size;
      counted = λ p q m.
          let a : count_at c.count_step.new.counts p q ≡ step_count c.loop-id.before c.from.result p q + count_at c.loop-id.counts p q = c.count_step.ensures.counts p q m in
          let b : steps p q (c.loop-id.before ∷ drop i ids) ≡ step_count c.loop-id.before id p q + steps p q (id ∷ drop (i + 1) ids) = ap (λ (xs : List ℕ). steps p q (c.loop-id.before ∷ xs)) (drop_more ids i 0 c.loop-id-test.true) ∙ steps-next p q c.loop-id.before id (drop (i + 1) ids) in
          let d : step_count c.loop-id.before c.from.result p q ≡ step_count c.loop-id.before id p q = ap (λ x. step_count c.loop-id.before x p q) from in
          let f : steps p q (c.from-before.result ∷ drop (i + 1) ids) ≡ steps p q (id ∷ drop (i + 1) ids) = ap (λ x. steps p q (x ∷ drop (i + 1) ids)) from2 in
          omega (arith, c.loop-id.invariant.counted p q m);
    }

pub returns-clause-counts : goal.returns-clause-counts
returns-clause-counts c = λ p q m.
    let e : steps p q (c.loop-id.before ∷ drop c.loop-id.id-index c.args.ids.now) ≡ 0 = ap (λ (xs : List ℕ). steps p q (c.loop-id.before ∷ xs)) (drop_all c.loop-id.id-index c.args.ids.now c.loop-id-test.false) ∙ steps-end p q c.loop-id.before in
    omega (arith, c.loop-id.invariant.counted p q m)
