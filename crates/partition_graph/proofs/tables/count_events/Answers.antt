use Rattle.std.proofs.Common.{arith}
use Rattle.partition_graph.specs.Cells.{cells_of}
use Rattle.partition_graph.specs.Sums.{sums, Sums}
use Rattle.partition_graph.proofs.Counting.{room-for-cell, room-for-edges}
use Rattle.partition_graph.proofs.CountSteps.{counting_goes_on, counting_ends}
use Rattle.partition_graph.proofs.CountedWords.{word-rest, word-id}
use Rattle.partition_graph.proofs.WordCells.{length-cells_of}
use Rattle.partition_graph.proofs.tables.count_events.Goals as goal

pub note_cell-requires-clause-id : goal.note_cell-requires-clause-id
note_cell-requires-clause-id c = word-id c.args.word.now c.loop-i.i c.of_type-cell.result c.loop-i-test.true c.requires.ids c.of_type-cell.ensures

pub note_cell-requires-clause-few : goal.note_cell-requires-clause-few
note_cell-requires-clause-few c =
    let w = c.args.word.now in
    let i = c.loop-i.i in
    let x = c.of_type-cell.result in
    let before : Sums = sums c.args.types.now c.args.sizes.now c.args.counts.now in
    let now : Sums = sums c.loop-i.types c.loop-i.sizes c.loop-i.counts in
    room-for-cell before now c.loop-i.before i (cells_of w) x (word-rest w i x c.loop-i-test.true c.of_type-cell.ensures) (word-id w i x c.loop-i-test.true c.requires.ids c.of_type-cell.ensures)
    c.requires.room c.loop-i.invariant

pub add_edges_at-requires-clause-id : goal.add_edges_at-requires-clause-id
add_edges_at-requires-clause-id c = word-id c.args.word.now c.loop-i.i c.of_type-cell.result c.loop-i-test.true c.requires.ids c.of_type-cell.ensures

pub add_edges_at-requires-clause-few : goal.add_edges_at-requires-clause-few
add_edges_at-requires-clause-few c = λ p q a b.
    let w = c.args.word.now in
    let i = c.loop-i.i in
    let x = c.of_type-cell.result in
    let before : Sums = sums c.args.types.now c.args.sizes.now c.args.counts.now in
    let now : Sums = sums c.loop-i.types c.loop-i.sizes c.loop-i.counts in
    room-for-edges before now c.loop-i.before i (cells_of w) x p q (word-rest w i x c.loop-i-test.true c.of_type-cell.ensures) c.requires.room c.loop-i.invariant a b

pub loop-i-preserved : goal.loop-i-preserved
loop-i-preserved c =
    let w = c.args.word.now in
    let i = c.loop-i.i in
    let x = c.of_type-cell.result in
    let before : Sums = sums c.args.types.now c.args.sizes.now c.args.counts.now in
    let now : Sums = sums c.loop-i.types c.loop-i.sizes c.loop-i.counts in
    let then : Sums = sums c.note_cell.new.types c.note_cell.new.sizes c.add_edges_at.new.counts in
    counting_goes_on before now then c.loop-i.before c.before_next-before.result i (cells_of w) x
    (word-rest w i x c.loop-i-test.true c.of_type-cell.ensures) (word-id w i x c.loop-i-test.true c.requires.ids c.of_type-cell.ensures) c.loop-i.invariant
    c.note_cell.ensures.types c.note_cell.ensures.sizes c.add_edges_at.ensures c.before_next-before.ensures

pub returns : goal.returns
returns c =
    let w = c.args.word.now in
    let before : Sums = sums c.args.types.now c.args.sizes.now c.args.counts.now in
    let now : Sums = sums c.loop-i.types c.loop-i.sizes c.loop-i.counts in
    counting_ends before now c.loop-i.before c.loop-i.i (cells_of w) (omega (arith, length-cells_of w, c.loop-i-test.false)) c.loop-i.invariant
