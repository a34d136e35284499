use Rattle.std.proofs.Common.{arith, ◌≡◌, ◌∙◌, ap, take}
use Rattle.std.specs.Str.Parse.{digits_value}
use Rattle.line_rules.proofs.Times.{reads-known}
use Rattle.line_rules.proofs.time.first_number.Goals as goal

pub overflow_mul-number : goal.overflow_mul-number
overflow_mul-number c =
    let l = c.loop-place in
    let read = reads-known c.args.text.now 8 l.place l.number c.requires.inside (omega arith) c.requires.digits (omega arith) l.invariant.value l.invariant.digits in
    omega (arith, read.small)

pub overflow_add-number : goal.overflow_add-number
overflow_add-number c =
    let l = c.loop-place in
    let read = reads-known c.args.text.now 8 l.place l.number c.requires.inside (omega arith) c.requires.digits (omega arith) l.invariant.value l.invariant.digits in
    omega (arith, c.from.ensures, read.small)

pub loop-place-preserved : goal.loop-place-preserved
loop-place-preserved c =
    let l = c.loop-place in
    let read = reads-known c.args.text.now 8 l.place l.number c.requires.inside (omega arith) c.requires.digits (omega arith) l.invariant.value l.invariant.digits in
    record { value = omega (arith, c.from.ensures, read.value); digits = read.digits }

pub returns : goal.returns
returns c =
    let l = c.loop-place in
    let end : l.place ≡ 8 = omega (arith, l.auto.place-end, c.loop-place-test.false) in
    l.invariant.value ∙ ap (λ k. digits_value 10 (take k c.args.text.now)) end
