use Rattle.std.proofs.Common.{◌+◌, ◌<◌, ℕ, arith, ap₂}
use Rattle.limits.specs.declared.TheConstants.{MAX_PARTITIONS}
use Rattle.partition_graph.specs.Marks.{count_in}
use Rattle.partition_graph.proofs.Rows.{adding-goes-on, counted-low, not-counted, put-turned}
use Rattle.partition_graph.proofs.edge_counts.EdgeCounts.join_sources.Goals as goal

pub loop-from-preserved : goal.loop-from-preserved
loop-from-preserved c =
    let from : ℕ = c.in-Some.from in
    let low : from < MAX_PARTITIONS = (counted-low c.loop-from.self from c.args.q c.in-Some.ensures.there).0 in
    let sum : ℕ = c.get.result + c.get-in-Some.result in
    record {
      reached = omega (arith, low);
      adding = adding-goes-on c.args.p c.args.q (λ a b. count_in c.args.self.now b a) (λ a b. count_in c.loop-from.self b a) (λ a b. count_in c.put.new.self b a) (λ a b. count_in c.put-in-Some.new.self b a)
          c.loop-from.reached from sum c.requires.apart c.requires.to c.requires.from low c.in-Some.ensures.reached c.loop-from.invariant.adding
          (λ b past before. not-counted c.loop-from.self b c.args.q (omega (arith, before, low)) c.requires.from (c.in-Some.ensures.first b past before))
          (put-turned from c.args.q 0 (count_in c.loop-from.self) (count_in c.put.new.self) low c.requires.from c.put.ensures)
          (ap₂ (λ m n. m + n) c.get.ensures c.get-in-Some.ensures)
          (put-turned from c.args.p sum (count_in c.put.new.self) (count_in c.put-in-Some.new.self) low c.requires.to c.put-in-Some.ensures);
    }
