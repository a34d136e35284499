use Rattle.std.proofs.Common.{◌<◌, length, arith}
use Rattle.line_rules.proofs.Times.{reads-on}
use Rattle.line_rules.proofs.time.head_after.Goals as goal

pub overflow_mul-number : goal.overflow_mul-number
overflow_mul-number c =
    let l = c.loop-place in
    let inside : l.place < length c.args.text.now = omega (arith, l.invariant.inside, c.if-place-text.false) in
    let read = reads-on c.args.text.now l.place l.number inside (omega (arith, c.loop-place-test.true, c.requires.most)) l.invariant.value l.invariant.digits c.if-not-is_ascii_digit.ensures.cases in
    omega (arith, read.small)

pub overflow_add-number : goal.overflow_add-number
overflow_add-number c =
    let l = c.loop-place in
    let inside : l.place < length c.args.text.now = omega (arith, l.invariant.inside, c.if-place-text.false) in
    let read = reads-on c.args.text.now l.place l.number inside (omega (arith, c.loop-place-test.true, c.requires.most)) l.invariant.value l.invariant.digits c.if-not-is_ascii_digit.ensures.cases in
    omega (arith, c.from.ensures, read.small)

pub loop-place-preserved : goal.loop-place-preserved
loop-place-preserved c =
    let l = c.loop-place in
    let inside : l.place < length c.args.text.now = omega (arith, l.invariant.inside, c.if-place-text.false) in
    let read = reads-on c.args.text.now l.place l.number inside (omega (arith, c.loop-place-test.true, c.requires.most)) l.invariant.value l.invariant.digits c.if-not-is_ascii_digit.ensures.cases in
    record { inside = omega (arith, inside); value = omega (arith, c.from.ensures, read.value); digits = read.digits }
