use Rattle.std.proofs.Common.{arith}
use Rattle.line_rules.proofs.Times.{fraction-small, all-of-fraction}
use Rattle.line_rules.proofs.time.billionths.Goals as goal

pub overflow_mul-result : goal.overflow_mul-result
overflow_mul-result c =
    let small = fraction-small c.args.fraction.now c.head_after-number.result.0 c.head_after-number.result.1 c.unit.result c.head_after-number.ensures c.unit.ensures in
    omega (arith, small)

pub returns-clause-small : goal.returns-clause-small
returns-clause-small c = fraction-small c.args.fraction.now c.head_after-number.result.0 c.head_after-number.result.1 c.unit.result c.head_after-number.ensures c.unit.ensures

pub returns-clause-value : goal.returns-clause-value
returns-clause-value c =
    let h = c.head_after-number in
    all-of-fraction c.args.fraction.now h.result.0 h.result.1 c.unit.result h.ensures (omega (arith, c.if-digits-eq0.false)) (omega (arith, c.if-digits-fraction.false, h.ensures.within)) c.unit.ensures
