use Rattle.std.proofs.Common.{◌≡◌, ◌+◌, ◌<◌, ◌^◌, arith, lit<}
use Rattle.limits.specs.declared.TheConstants.{MAX_PARTITIONS, TERMINAL}
use Rattle.partition_graph.specs.Counts.{is_edge, edges_at}
use Rattle.partition_graph.specs.Marks.{count_in}
use Rattle.partition_graph.proofs.Edges.{edge_to_end}
use Rattle.partition_graph.proofs.tables.add_edges_at.Goals as goal

pub add-requires-then-cell-clause-few : goal.add-requires-then-cell-clause-few
add-requires-then-cell-clause-few c =
    let one : TERMINAL < MAX_PARTITIONS = lit< tt in
    let a : count_in c.add.new.self c.args.cell.id TERMINAL ≡ count_in c.args.counts.now c.args.cell.id TERMINAL + is_edge c.args.before c.args.cell.id c.args.cell.id TERMINAL = c.add.ensures c.args.cell.id TERMINAL c.requires.id one in
    let b : edges_at c.args.before c.args.cell c.args.cell.id TERMINAL ≡ is_edge c.args.before c.args.cell.id c.args.cell.id TERMINAL + 1 = edge_to_end c.args.before c.args.cell c.if-cell.true in
    let f : count_in c.args.counts.now c.args.cell.id TERMINAL + edges_at c.args.before c.args.cell c.args.cell.id TERMINAL < 2 ^ 32 = c.requires.few c.args.cell.id TERMINAL c.requires.id one in
    omega (arith, a, b, f)
