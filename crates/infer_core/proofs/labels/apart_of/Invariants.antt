use Rattle.infer_core.proofs.Windows.{AreSameBefore}
use Rattle.infer_core.proofs.labels.apart_of.Given as goal

abbrev pub invariant-loop-word : goal.invariant-loop-word
invariant-loop-word l =
    record {
      by_one : AreSameBefore l.words l.word-index 1 l.by_one;
      by_two : AreSameBefore l.words l.word-index 2 l.by_two;
      by_three : AreSameBefore l.words l.word-index 3 l.by_three;
    }
