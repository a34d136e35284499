use Rattle.tests.proofs.basics.rows.take_step.Goals as goal

pub returns-in-Or : goal.returns-in-Or
returns-in-Or c = c.or_into.ensures.shape 4 c.args.bits c.requires

pub returns-in-OrAnd : goal.returns-in-OrAnd
returns-in-OrAnd c = c.or_and_into.ensures.shape 4 c.args.bits c.requires

pub returns-in-OrAndNot : goal.returns-in-OrAndNot
returns-in-OrAndNot c = c.or_and_not_into.ensures.shape 4 c.args.bits c.requires

pub returns-in-And : goal.returns-in-And
returns-in-And c = c.and_into.ensures.shape 4 c.args.bits c.requires

pub returns-in-AndNot : goal.returns-in-AndNot
returns-in-AndNot c = c.and_not_into.ensures.shape 4 c.args.bits c.requires
