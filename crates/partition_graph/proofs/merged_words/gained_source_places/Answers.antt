use Rattle.partition_model.specs.Assignments.{G}
use Rattle.partition_graph.specs.MergedNeighbours.{gained_source}
use Rattle.partition_graph.proofs.Places.{places-none, places-fewer, gained_source_off, gained_source_other}
use Rattle.partition_graph.proofs.merged_words.gained_source_places.Goals as goal

pub returns-then-v-p : goal.returns-then-v-p
returns-then-v-p c =
    let g = G c.args.graph.now.traces in
    places-none (gained_source g c.args.p c.args.q c.args.v) (λ u. gained_source_other g c.args.p c.args.q c.args.v u c.if-v-p.true)

pub returns : goal.returns
returns c =
    let g = G c.args.graph.now.traces in
    places-fewer (λ u. g.edge u c.args.q) (gained_source g c.args.p c.args.q c.args.v) c.source_places.result (λ u off. gained_source_off g c.args.p c.args.q c.args.v u off) c.source_places.ensures
