use Rattle.std.proofs.Common.{◌≡◌, ◌*◌, map, take}
use Rattle.std.specs.List.{AllByRecursion}
use Rattle.partition_model.specs.Assignments.{Assignment, G}
use Rattle.partition_model.specs.Listings.{ArePartitions}
use Rattle.models.specs.Models.{AreReached}
use Rattle.infer_core.specs.declared.portions.TheConstants.{PORTION}
use Rattle.infer_core.proofs.labels.listed.Given as goal

abbrev pub invariant-loop-portion : goal.invariant-loop-portion
invariant-loop-portion l =
    record {
      listing : map (λ x. x.inv) l.list.items ≡ take (l.portion * PORTION) l.invs;
      labels : (h : Assignment) → ArePartitions l.partitions h → G h ≡ G l.graph.traces
          → AllByRecursion (λ x. AreReached x.inv h l.partitions x.labels) l.list.items;
    }
