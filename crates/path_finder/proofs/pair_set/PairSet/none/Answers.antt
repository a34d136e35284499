use Rattle.path_finder.proofs.PairSets.{blank-word, empty-words}
use Rattle.path_finder.proofs.pair_set.PairSet.none.Goals as goal

pub returns : goal.returns
returns c = empty-words _ (λ w. blank-word 48 w)
