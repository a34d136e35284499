use Rattle.std.proofs.Common.{◌∙◌, ◌<◌, ◌≤◌, ℕ, arith}
use Rattle.limits.specs.declared.TheConstants.{MAX_PARTITIONS}
use Rattle.partition_model.proofs.OneMore.{edge_more}
use Rattle.partition_graph.proofs.Listed.{edges-up-to}
use Rattle.partition_graph.proofs.Rows.{counted-some}
use Rattle.partition_graph.proofs.lists.push_edges_from.Goals as goal

pub returns-then-q-used : goal.returns-then-q-used
returns-then-q-used c = λ h n counted.
    edges-up-to c.args.tables.now h n c.args.p c.loop-q.reached c.args.used c.args.list.now.items c.loop-q.list.items counted c.requires.from c.loop-q.invariant.reached c.requires.limit
    (λ k low high. c.in-Some.ensures.first k low (omega (arith, high, c.if-q-used.true))) (c.loop-q.invariant.edges h n counted)

pub loop-q-preserved : goal.loop-q-preserved
loop-q-preserved c =
    let q : ℕ = c.in-Some.q in
    let below : q < c.args.used = omega (arith, c.if-q-used.false) in
    let limit : q ≤ MAX_PARTITIONS = omega (arith, below, c.requires.limit) in
    let low : q < MAX_PARTITIONS = omega (arith, below, c.requires.limit) in
    record {
      reached = omega (arith, below);
      edges = λ h n counted.
          edge_more h c.args.p q c.count_at.result c.args.list.now.items c.loop-q.list.items c.push.new.self.items
          (omega (arith, c.count_at.ensures, counted-some c.args.tables.now.counts c.args.p q c.in-Some.ensures.there))
          (c.count_at.ensures ∙ counted.counts_are c.args.p q c.requires.from low)
          (edges-up-to c.args.tables.now h n c.args.p c.loop-q.reached q c.args.list.now.items c.loop-q.list.items counted c.requires.from c.in-Some.ensures.reached limit c.in-Some.ensures.first (c.loop-q.invariant.edges h n counted))
          c.in_ok-push.ensures.items;
    }

pub returns : goal.returns
returns c = λ h n counted.
    edges-up-to c.args.tables.now h n c.args.p c.loop-q.reached c.args.used c.args.list.now.items c.loop-q.list.items counted c.requires.from c.loop-q.invariant.reached c.requires.limit
    (λ k low high. c.in_default.ensures k low) (c.loop-q.invariant.edges h n counted)
