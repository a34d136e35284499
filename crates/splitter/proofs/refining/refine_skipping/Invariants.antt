use Rattle.std.proofs.Common.{◌≡◌, ◌+◌, ◌-◌, length}
use Rattle.limits.specs.declared.TheConstants.{MAX_PARTITIONS}
use Rattle.partition_model.specs.Assignments.{G}
use Rattle.run_history.specs.Records.{splits_of}
use Rattle.splitter.specs.Refining.{asked_count, AreKnown}
use Rattle.splitter.specs.Writing.{WritesSplits}
use Rattle.splitter.proofs.RefiningTurns.{IsRefining}
use Rattle.splitter.proofs.refining.refine_skipping.Given as goal

abbrev pub invariant-loop-k : goal.invariant-loop-k
invariant-loop-k g l =
    record {
      refining : IsRefining l.basis.invs.now l.fn.graph l.graph l.k (splits_of l.run_log l.spans);
      writes : WritesSplits l.fn.run_log l.run_log l.fn.spans l.spans;
      known : AreKnown l.basis.known.now l.basis.invs.now (G l.graph.traces);
      counted : l.steps ≡ l.fn.steps + asked_count l.basis.known.now l.k + length (splits_of l.run_log l.spans);
    }

abbrev pub decreases-loop-k : goal.decreases-loop-k
decreases-loop-k g l = (length l.basis.invs.now - l.k) + (MAX_PARTITIONS - l.graph.used)
