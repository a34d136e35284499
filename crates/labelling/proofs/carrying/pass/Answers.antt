use Rattle.std.proofs.Common.{true, false, Bool, subst, sym}
use Rattle.labelling.specs.Carried.{IsPassed}
use Rattle.labelling.proofs.Passing.{passed, passed_none}
use Rattle.labelling.proofs.carrying.pass.Goals as goal

pub returns-then-from-to : goal.returns-then-from-to
returns-then-from-to c = passed_none c.args.rows.now c.args.from c.args.to c.args.mask c.args.back c.if-from-to.true

pub returns-then-back : goal.returns-then-back
returns-then-back c =
    subst (λ (b : Bool). IsPassed c.args.rows.now c.or_and_not_into.new.self c.args.from c.args.to c.args.mask b c.or_and_not_into.result) (sym c.if-back.true)
    (passed c.args.rows.now c.or_and_not_into.new.self c.args.from c.args.to c.args.mask true c.or_and_not_into.result c.requires.shape c.requires.from_row c.requires.to_row c.requires.mask_row
    c.or_and_not_into.ensures.rows c.or_and_not_into.ensures.shape c.or_and_not_into.ensures.stays c.or_and_not_into.ensures.changes)

pub returns : goal.returns
returns c =
    subst (λ (b : Bool). IsPassed c.args.rows.now c.or_and_into.new.self c.args.from c.args.to c.args.mask b c.or_and_into.result) (sym c.if-back.false)
    (passed c.args.rows.now c.or_and_into.new.self c.args.from c.args.to c.args.mask false c.or_and_into.result c.requires.shape c.requires.from_row c.requires.to_row c.requires.mask_row
    c.or_and_into.ensures.rows c.or_and_into.ensures.shape c.or_and_into.ensures.stays c.or_and_into.ensures.changes)
