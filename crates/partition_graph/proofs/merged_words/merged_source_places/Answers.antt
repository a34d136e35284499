use Rattle.partition_model.specs.Assignments.{G}
use Rattle.partition_graph.proofs.Places.{merged_sources_at, bare-sources}
use Rattle.partition_graph.proofs.merged_words.merged_source_places.Goals as goal

pub returns : goal.returns
returns c =
    merged_sources_at (G c.args.graph.now.traces) c.args.p c.args.q c.args.v c.source_places-own.result c.gained_source_places-gained.result c.place_of.result
    c.source_places-own.ensures c.gained_source_places-gained.ensures c.place_of.ensures

pub returns-then-is_bare : goal.returns-then-is_bare
returns-then-is_bare c =
    bare-sources (G c.args.graph.now.traces) c.args.p c.args.q c.args.v c.source_places-own.result c.if-is_bare.ensures.0
    (c.if-is_bare.ensures.1 (λ u. (G c.args.graph.now.traces).edge u c.args.v) c.source_places-own.ensures) c.source_places-own.ensures
