use Rattle.std.proofs.Common.{arith}
use Rattle.bit_rows.specs.Tables.{row_at, is_set}
use Rattle.partition_graph.proofs.Filling.{next_in}
use Rattle.partition_graph.proofs.NeighbourWords.{none_in_word}
use Rattle.partition_graph.proofs.id_rows.next_in_word.Goals as goal

pub returns-then-rest-eq0 : goal.returns-then-rest-eq0
returns-then-rest-eq0 c = none_in_word (is_set (row_at c.args.rows.now c.args.r)) c.args.from c.word.result c.word.ensures c.if-rest-eq0.true

pub overflow_add-result : goal.overflow_add-result
overflow_add-result c =
    let next = next_in (row_at c.args.rows.now c.args.r) c.args.from c.word.result c.word.ensures (omega (arith, c.word.type_inv)) c.if-rest-eq0.false in
    record { fits = omega (arith, next.within, c.requires.few) }

pub returns : goal.returns
returns c = next_in (row_at c.args.rows.now c.args.r) c.args.from c.word.result c.word.ensures (omega (arith, c.word.type_inv)) c.if-rest-eq0.false
