use Rattle.std.proofs.Common.{ℕ, ◌+◌, ◌∷◌, ap, ◌∙◌, arith}
use Rattle.model_reader.proofs.Numbers.{begun, continued}
use Rattle.model_reader.proofs.decimals.number_and_others.Goals as goal

pub returns-then-number-eq0 : goal.returns-then-number-eq0
returns-then-number-eq0 c = begun c.args.bytes.now c.in_ok-number.others.now 0 (omega arith) (c.in_ok-number.ensures.1 ∙ ap (λ (digit : ℕ). (48 + digit) ∷ c.in_ok-number.others.now) c.if-number-eq0.true)

pub digits-init : goal.digits-init
digits-init c = record {
  text = begun c.args.bytes.now c.in_ok-number.others.now c.in_ok-number.number c.in_ok-number.ensures.0 c.in_ok-number.ensures.1;
  rises = omega (arith, c.if-number-eq0.false);
}

pub digits-preserved : goal.digits-preserved
digits-preserved c = record {
  text = continued c.args.bytes.now c.digits.others.now c.in-Some.fewer.now c.digits.number c.in-Some.digit c.digits.invariant.rises c.in-Some.ensures.0 (omega (arith, c.in-Some.ensures.0, c.if-number-gt99999999.false)) c.digits.invariant.text c.in-Some.ensures.1;
  rises = omega (arith, c.digits.invariant.rises);
}
