use Rattle.std.proofs.Common.{◌≡◌, ◌<◌, ◌+◌, ◌||◌, nat_lt, ℕ, List, Bool, drop, get_or, sym, subst, ◌∙◌, ap, arith}
use Rattle.limits.specs.declared.TheConstants.{MAX_PARTITIONS}
use Rattle.replay_check.specs.Laid.{step_count}
use Rattle.replay_check.specs.Shown.{has_edge}
use Rattle.replay_check.proofs.Marking.{AreMarks, marks-first, marks-next, marks-last}
use Rattle.replay_check.proofs.edges.mark_along.Goals as goal

pub loop-id-init : goal.loop-id-init
loop-id-init c =
    record {
      within = omega arith;
      shape = c.requires.shape;
      marked = marks-first c.args.rows.now c.args.ids.now c.requires.blank;
    }

pub loop-id-preserved : goal.loop-id-preserved
loop-id-preserved c =
    let ids : List ℕ = c.args.ids.now in
    let i : ℕ = c.loop-id.id-index in
    let id : ℕ = get_or ids i 0 in
    let now : List (List Bool) = c.mark_step.new.rows in
    let from : c.from.result ≡ id = c.from.ensures in
    let before : c.from-before.result ≡ id = c.from-before.ensures in
    let here : id < MAX_PARTITIONS = c.requires.within i 0 c.loop-id-test.true in
    record {
      within = omega arith;
      shape = c.mark_step.ensures.shape;
      marked = subst (λ b. AreMarks now ids b (drop (i + 1) ids)) (sym before)
          (marks-next c.loop-id.rows now ids c.loop-id.before i c.loop-id-test.true
          (λ p q. c.mark_step.ensures.marks p q ∙ ap (λ x. has_edge c.loop-id.rows p q || nat_lt 0 (step_count c.loop-id.before x p q)) from)
          c.loop-id.invariant.marked);
    }

pub returns-clause-marks : goal.returns-clause-marks
returns-clause-marks c = marks-last c.loop-id.rows c.args.ids.now c.loop-id.before c.loop-id.id-index (omega (arith, c.loop-id-test.false)) c.loop-id.invariant.marked
