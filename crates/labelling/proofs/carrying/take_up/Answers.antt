use Rattle.std.proofs.Common.{false}
use Rattle.labelling.proofs.Passing.{passed_none, taken_up}
use Rattle.labelling.proofs.carrying.take_up.Goals as goal

pub returns-then-from-to : goal.returns-then-from-to
returns-then-from-to c = passed_none c.args.rows.now c.args.from c.args.to c.args.from false c.if-from-to.true

pub returns : goal.returns
returns c =
    taken_up c.args.rows.now c.or_into.new.self c.args.from c.args.to c.or_into.result c.requires.shape c.requires.from_row c.requires.to_row
    c.or_into.ensures.rows c.or_into.ensures.shape c.or_into.ensures.stays c.or_into.ensures.changes
