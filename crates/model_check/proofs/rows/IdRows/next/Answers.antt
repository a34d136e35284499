use Rattle.model_check.proofs.Bits.{next-in}
use Rattle.model_check.proofs.rows.IdRows.next.Goals as goal

pub returns : goal.returns
returns c = next-in c.args.self.now c.args.r c.args.from c.next_set.result c.requires c.next_set.ensures
