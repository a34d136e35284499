use Rattle.partition_model.specs.Assignments.{G}
use Rattle.partition_graph.proofs.Places.{merged_targets_at, bare-targets}
use Rattle.partition_graph.proofs.merged_words.merged_target_places.Goals as goal

pub returns : goal.returns
returns c =
    merged_targets_at (G c.args.graph.now.traces) c.args.p c.args.q c.args.u c.target_places-own.result c.gained_target_places-gained.result c.place_of.result
    c.target_places-own.ensures c.gained_target_places-gained.ensures c.place_of.ensures

pub returns-then-is_bare : goal.returns-then-is_bare
returns-then-is_bare c =
    bare-targets (G c.args.graph.now.traces) c.args.p c.args.q c.args.u c.target_places-own.result c.if-is_bare.ensures.0
    (c.if-is_bare.ensures.1 (λ v. (G c.args.graph.now.traces).edge c.args.u v) c.target_places-own.ensures) c.target_places-own.ensures
