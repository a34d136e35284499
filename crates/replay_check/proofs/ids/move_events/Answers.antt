use Rattle.std.proofs.Common.{◌≡◌, ◌-◌, ◌+◌, ◌==◌, ◌&&◌, suc, if◌then◌else◌, ℕ, List, get_or, length, sym, ◌∙◌, ap, ap₂, arith}
use Rattle.replay_check.specs.Laid.{moved}
use Rattle.replay_check.proofs.Same.{partly-first, partly-more, partly-last, length-moved, moved-at, moved-last}
use Rattle.replay_check.proofs.ids.move_events.Goals as goal

pub loop-k-init : goal.loop-k-init
loop-k-init c = partly-first c.args.ids.now (moved c.args.p c.args.q c.args.n c.args.ids.now)

pub loop-k-preserved : goal.loop-k-preserved
loop-k-preserved c =
    let old : List ℕ = c.args.ids.now in
    let k : ℕ = c.loop-k.k in
    let size : length c.loop-k.ids ≡ length old = c.loop-k.invariant.size in
    let back : suc (k - 1) ≡ k = omega (arith, c.loop-k.auto.k) in
    let here : get_or c.loop-k.ids (k - 1) 0 ≡ get_or old (k - 1) 0 = c.loop-k.invariant.after (k - 1) (omega arith) in
    let next : get_or c.loop-k.ids k 0 ≡ get_or old (suc (k - 1)) 0 = c.loop-k.invariant.after k (omega arith) ∙ ap (λ n. get_or old n 0) (sym back) in
    let value : c.moved_id.result ≡ get_or (moved c.args.p c.args.q c.args.n old) (k - 1) 0 =
    c.moved_id.ensures ∙ ap₂ (λ (x y : ℕ). if x == c.args.p && y == c.args.q then c.args.n else x) here next
    ∙ sym (moved-at c.args.p c.args.q c.args.n old (k - 1) (omega (arith, c.loop-k-test.true, c.loop-k.auto.k))) in
    let more = partly-more old c.loop-k.ids (moved c.args.p c.args.q c.args.n old) (k - 1) c.moved_id.result (omega (arith, c.loop-k-test.true)) value c.loop-k.invariant in
    let on : (k - 1) + 1 ≡ (k + 1) - 1 = omega (arith, c.loop-k.auto.k) in
    rw (sym on) more

pub returns : goal.returns
returns c =
    let old : List ℕ = c.args.ids.now in
    partly-last old c.loop-k.ids (moved c.args.p c.args.q c.args.n old) (c.loop-k.k - 1) (length-moved c.args.p c.args.q c.args.n old) (omega (arith, c.loop-k-test.false)) (λ j e. moved-last c.args.p c.args.q c.args.n old j e) c.loop-k.invariant
