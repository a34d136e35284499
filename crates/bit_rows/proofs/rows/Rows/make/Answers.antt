use Rattle.std.proofs.Common.{ap, get_or}
use Rattle.bit_rows.proofs.Done.{made_shape, made_table}
use Rattle.bit_rows.proofs.rows.Rows.make.Goals as goal

pub returns-clause-rows : goal.returns-clause-rows
returns-clause-rows c = made_table c.in_ok-words.words.items c.div_ceil-width.result c.args.rows c.args.bits (λ k. ap (λ l. get_or l k 0) c.in_ok-words.ensures.items)

pub returns-clause-shape : goal.returns-clause-shape
returns-clause-shape c =
    made_shape c.args.rows c.args.bits _ (made_table c.in_ok-words.words.items c.div_ceil-width.result c.args.rows c.args.bits (λ k. ap (λ l. get_or l k 0) c.in_ok-words.ensures.items))
