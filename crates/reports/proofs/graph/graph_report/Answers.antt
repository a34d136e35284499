use Rattle.reports.proofs.Found.{lines-more}
use Rattle.reports.proofs.graph.graph_report.Goals as goal

pub loop-edge-preserved : goal.loop-edge-preserved
loop-edge-preserved c =
    let put = rw c.in_ok-names.ensures at c.in_ok-push_line.ensures in
    lines-more c.args.types.now c.args.partitions.now c.in_ok-places.places c.args.edges.now c.loop-edge.edge-index _ c.loop-edge.text.items c.push_line.new.text.items c.loop-edge-test.true
    c.in_ok-places.ensures c.loop-edge.invariant put
