use Rattle.std.proofs.Common.{◌||◌, ◌+◌, ◌*◌, ◌∙◌, ℕ, bit_or}
use Rattle.partition_model.specs.Graphs.{merged_edge}
use Rattle.partition_model.specs.Assignments.{G}
use Rattle.partition_graph.specs.MergedNeighbours.{own_source, gained_source, kept_source}
use Rattle.partition_graph.proofs.NextOnes.{merged_sources}
use Rattle.partition_graph.proofs.NeighbourWords.{word-same, word-either}
use Rattle.partition_graph.proofs.Places.{apart-edge, other-word}
use Rattle.partition_graph.proofs.merged_words.merged_source_word.Goals as goal

pub returns : goal.returns
returns c =
    let g = G c.args.graph.now.traces in
    let p = c.args.p in
    let q = c.args.q in
    let v = c.args.v in
    let own : ℕ = c.own_source_word-own.result in
    let gained : ℕ = c.gained_source_word-gained.result in
    let kept : ℕ = c.kept_source_word-kept.result in
    word-same (λ u. own_source g q v u || (gained_source g p q v u || kept_source g p q v u)) (λ u. merged_edge g p q u v) c.args.place (bit_or own (bit_or gained kept)) (merged_sources g p q v c.requires.pair.order c.if-v-q.false)
    (word-either (own_source g q v) (λ u. gained_source g p q v u || kept_source g p q v u) c.args.place own (bit_or gained kept) c.own_source_word-own.ensures
    (word-either (gained_source g p q v) (kept_source g p q v) c.args.place gained kept c.gained_source_word-gained.ensures c.kept_source_word-kept.ensures))

pub returns-then-is_apart : goal.returns-then-is_apart
returns-then-is_apart c i below =
    c.source_word.ensures i below
    ∙ apart-edge (G c.args.graph.now.traces) c.args.p c.args.q (c.args.place * 64 + i) c.args.v
    (other-word c.args.q c.args.place i below c.if-is_apart.ensures.2) c.if-v-q.false (other-word c.args.p c.args.place i below c.if-is_apart.ensures.1) c.if-is_apart.ensures.0
