use Rattle.partition_model.specs.Assignments.{G}
use Rattle.partition_graph.specs.MergedNeighbours.{gained_target}
use Rattle.partition_graph.proofs.Places.{places-none, places-fewer, gained_target_off, gained_target_other}
use Rattle.partition_graph.proofs.merged_words.gained_target_places.Goals as goal

pub returns-then-u-p : goal.returns-then-u-p
returns-then-u-p c =
    let g = G c.args.graph.now.traces in
    places-none (gained_target g c.args.p c.args.q c.args.u) (λ v. gained_target_other g c.args.p c.args.q c.args.u v c.if-u-p.true)

pub returns : goal.returns
returns c =
    let g = G c.args.graph.now.traces in
    places-fewer (λ v. g.edge c.args.q v) (gained_target g c.args.p c.args.q c.args.u) c.target_places.result (λ v off. gained_target_off g c.args.p c.args.q c.args.u v off) c.target_places.ensures
