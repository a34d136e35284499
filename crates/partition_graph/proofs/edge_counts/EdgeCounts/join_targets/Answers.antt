use Rattle.std.proofs.Common.{◌+◌, ◌<◌, ℕ, arith, ap₂}
use Rattle.limits.specs.declared.TheConstants.{MAX_PARTITIONS}
use Rattle.partition_graph.specs.Marks.{count_in}
use Rattle.partition_graph.proofs.Rows.{adding-goes-on, counted-low, not-counted, put-from}
use Rattle.partition_graph.proofs.edge_counts.EdgeCounts.join_targets.Goals as goal

pub loop-to-preserved : goal.loop-to-preserved
loop-to-preserved c =
    let to : ℕ = c.in-Some.to in
    let low : to < MAX_PARTITIONS = (counted-low c.loop-to.self c.args.q to c.in-Some.ensures.there).1 in
    let sum : ℕ = c.get.result + c.get-in-Some.result in
    record {
      reached = omega (arith, low);
      adding = adding-goes-on c.args.p c.args.q (count_in c.args.self.now) (count_in c.loop-to.self) (count_in c.put.new.self) (count_in c.put-in-Some.new.self) c.loop-to.reached to sum c.requires.apart c.requires.to
          c.requires.from low c.in-Some.ensures.reached c.loop-to.invariant.adding
          (λ b past before. not-counted c.loop-to.self c.args.q b c.requires.from (omega (arith, before, low)) (c.in-Some.ensures.first b past before))
          (put-from c.args.q to 0 (count_in c.loop-to.self) (count_in c.put.new.self) c.requires.from low c.put.ensures)
          (ap₂ (λ m n. m + n) c.get.ensures c.get-in-Some.ensures)
          (put-from c.args.p to sum (count_in c.put.new.self) (count_in c.put-in-Some.new.self) c.requires.to low c.put-in-Some.ensures);
    }
