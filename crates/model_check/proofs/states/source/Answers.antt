use Rattle.std.proofs.Common.{◌≡◌, ◌||◌, ◌==◌, ℕ, sym, ◌∙◌, ap, subst}
use Rattle.invariants.specs.Monitors.{step}
use Rattle.models.specs.Models.{has_state}
use Rattle.model_check.proofs.Sources.{IsSourceBelow, source_none, source_more, source_same}
use Rattle.model_check.proofs.states.source.Goals as goal
use Rattle.model_check.proofs.states.source.Goals.{then-has, else-has}

pub loop-state-init : goal.loop-state-init
loop-state-init c = subst (λ (n : ℕ). IsSourceBelow c.args.inv c.args.typ c.args.set 0 n) (sym c.none-source.ensures) (source_none c.args.inv c.args.typ c.args.set)

pub loop-state-preserved : goal.loop-state-preserved
loop-state-preserved c =
    let tested : c.has.result ≡ has_state c.args.set (step c.args.inv c.loop-state.state c.args.typ) = c.has.ensures ∙ ap (λ x. has_state c.args.set x) c.step.ensures.value in
    elim c.if-has.branch [
      | then-has w ↦
          let states : (s : ℕ) → has_state w.either-source.result s ≡ (has_state c.loop-state.source s || (c.loop-state.state == s)) =
          λ s. w.either-source.ensures s ∙ ap (λ b. has_state c.loop-state.source s || b) (w.alone.ensures s) in
          rw w.source-is (source_more c.args.inv c.args.typ c.args.set c.loop-state.state c.loop-state.source w.either-source.result (sym tested ∙ w.if-has.true) states c.loop-state.invariant)
      | else-has w ↦
          rw w.source-is (source_same c.args.inv c.args.typ c.args.set c.loop-state.state c.loop-state.source (sym tested ∙ w.if-has.false) c.loop-state.invariant)
    ]
