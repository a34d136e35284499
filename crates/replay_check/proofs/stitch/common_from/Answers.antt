use Rattle.std.proofs.Common.{◌≡◌, ◌+◌, drop, sym, ◌∙◌, zero-add, arith}
use Rattle.replay_check.specs.Laid.{common_in_trace}
use Rattle.replay_check.proofs.Stitched.{common-end, common-all, common-left, common-stops, common-on}
use Rattle.replay_check.proofs.stitch.common_from.Goals as goal

pub loop-k-init : goal.loop-k-init
loop-k-init c = let z : c.args.from + 0 ≡ c.args.from = omega arith in record { inside = omega arith; common = rw z (sym (zero-add (common_in_trace c.args.path.now (drop c.args.from c.args.ids.now)))) }

pub returns-then-k-ids : goal.returns-then-k-ids
returns-then-k-ids c = common-end c.args.path.now c.args.ids.now c.args.from c.loop-k.k (omega (arith, c.if-k-ids.true)) c.loop-k.invariant.common

pub returns-then-from-id : goal.returns-then-from-id
returns-then-from-id c = common-left c.args.path.now c.args.ids.now c.args.from c.loop-k.k c.loop-k-test.true (omega (arith, c.if-k-ids.false)) (λ e. c.if-from-id.true (c.from.ensures ∙ e)) c.loop-k.invariant.common

pub returns-then-id-eq-TERMINAL : goal.returns-then-id-eq-TERMINAL
returns-then-id-eq-TERMINAL c = common-stops c.args.path.now c.args.ids.now c.args.from c.loop-k.k c.loop-k-test.true (omega (arith, c.if-k-ids.false)) (sym c.from.ensures ∙ c.if-from-id.false) c.if-id-eq-TERMINAL.true c.loop-k.invariant.common

pub loop-k-preserved : goal.loop-k-preserved
loop-k-preserved c =
    record {
      inside = omega (arith, c.if-k-ids.false);
      common = common-on c.args.path.now c.args.ids.now c.args.from c.loop-k.k c.loop-k-test.true (omega (arith, c.if-k-ids.false)) (sym c.from.ensures ∙ c.if-from-id.false) c.if-id-eq-TERMINAL.false c.loop-k.invariant.common;
    }

pub returns : goal.returns
returns c = common-all c.args.path.now c.args.ids.now c.args.from c.loop-k.k (omega (arith, c.loop-k-test.false)) (omega arith) c.loop-k.invariant.common
