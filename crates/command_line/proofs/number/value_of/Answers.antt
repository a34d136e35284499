use Rattle.std.proofs.Common.{arith}
use Rattle.command_line.proofs.Digits.{reads-on, read-all, small-number}
use Rattle.command_line.proofs.number.value_of.Goals as goal

pub overflow_mul-number : goal.overflow_mul-number
overflow_mul-number c =
    let read = reads-on c.args.digits.now c.as_bytes-digit-items.result.now c.loop-digit.digit-index c.loop-digit.number
    c.requires c.as_bytes-digit-items.ensures.value c.loop-digit-test.true c.loop-digit.invariant in
    omega (arith, read.small)

pub overflow_add-number : goal.overflow_add-number
overflow_add-number c =
    let read = reads-on c.args.digits.now c.as_bytes-digit-items.result.now c.loop-digit.digit-index c.loop-digit.number
    c.requires c.as_bytes-digit-items.ensures.value c.loop-digit-test.true c.loop-digit.invariant in
    omega (arith, c.from.ensures, read.small)

pub loop-digit-preserved : goal.loop-digit-preserved
loop-digit-preserved c =
    let read = reads-on c.args.digits.now c.as_bytes-digit-items.result.now c.loop-digit.digit-index c.loop-digit.number
    c.requires c.as_bytes-digit-items.ensures.value c.loop-digit-test.true c.loop-digit.invariant in
    omega (arith, c.from.ensures, read.value)

pub returns-clause-value : goal.returns-clause-value
returns-clause-value c =
    read-all c.args.digits.now c.as_bytes-digit-items.result.now c.loop-digit.digit-index c.loop-digit.number
    c.as_bytes-digit-items.ensures.value c.loop-digit-test.false c.loop-digit.invariant

pub returns-clause-small : goal.returns-clause-small
returns-clause-small c =
    let value = read-all c.args.digits.now c.as_bytes-digit-items.result.now c.loop-digit.digit-index c.loop-digit.number
    c.as_bytes-digit-items.ensures.value c.loop-digit-test.false c.loop-digit.invariant in
    omega (arith, value, small-number c.args.digits.now c.requires)
