use Rattle.std.proofs.Common.{◌≡◌, ◌++◌, Bool, List, map, take}
use Rattle.std.specs.List.{AllByRecursion}
use Rattle.partition_model.specs.Assignments.{Assignment, G}
use Rattle.partition_model.specs.Listings.{ArePartitions}
use Rattle.models.specs.Models.{AreReached}
use Rattle.labelling.specs.Labelled.{AreLabelsOf}
use Rattle.infer_core.specs.Vacuous.{AreMetOnceOnWalks, Covers}
use Rattle.infer_core.specs.Windows.{IsWindowOf}
use Rattle.infer_core.proofs.labels.add_listed.Given as goal

abbrev pub invariant-loop-number : goal.invariant-loop-number
invariant-loop-number l =
    record {
      listing : map (λ x. x.inv) l.list.items ≡ map (λ x. x.inv) l.initial.list.items ++ take l.number l.invs;
      labels : (h : Assignment) (once : List Bool) → ArePartitions l.partitions h → AreLabelsOf l.graph_labels (G h)
          → Covers once l.invs l.graph_labels.invs l.numbers → AreMetOnceOnWalks (G h) once
          → AllByRecursion (λ x. AreReached x.inv h l.partitions x.labels) l.initial.list.items
          → AllByRecursion (λ x. AreReached x.inv h l.partitions x.labels) l.list.items;
      window : IsWindowOf l.graph_labels l.partitions l.window;
    }
