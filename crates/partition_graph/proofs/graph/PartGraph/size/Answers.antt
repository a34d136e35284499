use Rattle.std.proofs.Common.{◌≡◌, subst, arith, rules}
use Rattle.partition_model.specs.Assignments.{size}
use Rattle.partition_graph.specs.Cells.{traces_of}
use Rattle.partition_graph.specs.Parts.{Parts}
use Rattle.partition_graph.proofs.UnusedIds.{no_size}
use Rattle.partition_graph.proofs.WordCells.{traces-le}
use Rattle.partition_graph.proofs.graph.PartGraph.size.Goals as goal

pub overflow_cast-result : goal.overflow_cast-result
overflow_cast-result c = omega (arith, traces-le c.self.inside.events, c.self.invariant.first_count, c.self.invariant.few, c.len.ensures)

pub returns-then-p-self : goal.returns-then-p-self
returns-then-p-self c =
    subst (λ (x : Parts). 0 ≡ size x.traces c.args.p) c.self.view_is
    (no_size (traces_of c.self.inside.events) c.self.inside.used c.self.invariant.below c.args.p c.if-p-lt-FIRST_TYPE.false c.if-p-self.true)

pub returns-then-p-lt-FIRST_TYPE : goal.returns-then-p-lt-FIRST_TYPE
returns-then-p-lt-FIRST_TYPE c = search rules
