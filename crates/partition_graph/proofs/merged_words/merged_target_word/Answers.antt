use Rattle.std.proofs.Common.{◌||◌, ◌+◌, ◌*◌, ◌∙◌, ℕ, bit_or}
use Rattle.partition_model.specs.Graphs.{merged_edge}
use Rattle.partition_model.specs.Assignments.{G}
use Rattle.partition_graph.specs.MergedNeighbours.{own_target, gained_target, kept_target}
use Rattle.partition_graph.proofs.NextOnes.{merged_targets}
use Rattle.partition_graph.proofs.NeighbourWords.{word-same, word-either}
use Rattle.partition_graph.proofs.Places.{apart-edge, other-word}
use Rattle.partition_graph.proofs.merged_words.merged_target_word.Goals as goal

pub returns : goal.returns
returns c =
    let g = G c.args.graph.now.traces in
    let p = c.args.p in
    let q = c.args.q in
    let u = c.args.u in
    let own : ℕ = c.own_target_word-own.result in
    let gained : ℕ = c.gained_target_word-gained.result in
    let kept : ℕ = c.kept_target_word-kept.result in
    word-same (λ v. own_target g q u v || (gained_target g p q u v || kept_target g p q u v)) (λ v. merged_edge g p q u v) c.args.place (bit_or own (bit_or gained kept)) (merged_targets g p q u c.requires.pair.order c.if-u-q.false)
    (word-either (own_target g q u) (λ v. gained_target g p q u v || kept_target g p q u v) c.args.place own (bit_or gained kept) c.own_target_word-own.ensures
    (word-either (gained_target g p q u) (kept_target g p q u) c.args.place gained kept c.gained_target_word-gained.ensures c.kept_target_word-kept.ensures))

pub returns-then-is_apart : goal.returns-then-is_apart
returns-then-is_apart c i below =
    c.target_word.ensures i below
    ∙ apart-edge (G c.args.graph.now.traces) c.args.p c.args.q c.args.u (c.args.place * 64 + i)
    c.if-u-q.false (other-word c.args.q c.args.place i below c.if-is_apart.ensures.2) c.if-is_apart.ensures.0 (other-word c.args.p c.args.place i below c.if-is_apart.ensures.1)
