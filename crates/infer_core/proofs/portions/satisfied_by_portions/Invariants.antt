use Rattle.std.proofs.Common.{◌≡◌, ◌*◌, length, take}
use Rattle.partition_model.specs.Assignments.{G}
use Rattle.labelling.specs.Labelled.{SaysSatisfied}
use Rattle.infer_core.specs.declared.portions.TheConstants.{PORTION}
use Rattle.infer_core.proofs.portions.satisfied_by_portions.Given as goal

abbrev pub invariant-loop-portion : goal.invariant-loop-portion
invariant-loop-portion l =
    record {
      count : length l.flags.items ≡ length (take (l.portion * PORTION) l.invs);
      told : SaysSatisfied (G l.graph.traces) (take (l.portion * PORTION) l.invs) l.flags.items;
    }
