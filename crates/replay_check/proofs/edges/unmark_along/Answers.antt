use Rattle.std.proofs.Common.{◌≡◌, ◌<◌, ◌==◌, ◌+◌, ◌&&◌, ℕ, List, Bool, drop, get_or, sym, subst, ◌∙◌, ap, arith}
use Rattle.limits.specs.declared.TheConstants.{MAX_PARTITIONS}
use Rattle.replay_check.specs.Laid.{step_count}
use Rattle.replay_check.specs.Shown.{has_edge}
use Rattle.replay_check.proofs.Marking.{AreLeft, left-first, left-next, left-last}
use Rattle.replay_check.proofs.edges.unmark_along.Goals as goal

pub loop-id-init : goal.loop-id-init
loop-id-init c =
    record {
      within = omega arith;
      shape = c.requires.shape;
      left = left-first c.args.rows.now c.args.ids.now c.requires.marks;
    }

pub loop-id-preserved : goal.loop-id-preserved
loop-id-preserved c =
    let ids : List ℕ = c.args.ids.now in
    let i : ℕ = c.loop-id.id-index in
    let id : ℕ = get_or ids i 0 in
    let now : List (List Bool) = c.unmark_step.new.rows in
    let from : c.from.result ≡ id = c.from.ensures in
    let before : c.from-before.result ≡ id = c.from-before.ensures in
    let here : id < MAX_PARTITIONS = c.requires.within i 0 c.loop-id-test.true in
    record {
      within = omega arith;
      shape = c.unmark_step.ensures.shape;
      left = subst (λ b. AreLeft now b (drop (i + 1) ids)) (sym before)
          (left-next c.loop-id.rows now ids c.loop-id.before i c.loop-id-test.true
          (λ p q. c.unmark_step.ensures.marks p q ∙ ap (λ x. has_edge c.loop-id.rows p q && (step_count c.loop-id.before x p q == 0)) from)
          c.loop-id.invariant.left);
    }

pub returns-clause-blank : goal.returns-clause-blank
returns-clause-blank c = left-last c.loop-id.rows c.args.ids.now c.loop-id.before c.loop-id.id-index (omega (arith, c.loop-id-test.false)) c.loop-id.invariant.left
