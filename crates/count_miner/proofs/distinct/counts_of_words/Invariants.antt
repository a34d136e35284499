use Rattle.std.proofs.Common.{◌≡◌, length}
use Rattle.count_miner.proofs.Once.{Once}
use Rattle.count_miner.proofs.distinct.counts_of_words.Given as goal

abbrev pub invariant-loop-t : goal.invariant-loop-t
invariant-loop-t l = record {
  kinds : l.counts.kinds ≡ l.fn.kinds;
  types : l.counts.types ≡ length l.traces.types;
  once : Once l.counts l.traces.traces l.numbers l.t l.next;
}
