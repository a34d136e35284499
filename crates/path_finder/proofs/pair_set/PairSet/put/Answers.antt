use Rattle.std.proofs.Common.{refl, arith}
use Rattle.path_finder.proofs.PairSets.{added-pairs}
use Rattle.path_finder.proofs.pair_set.PairSet.put.Goals as goal

pub returns-clause-added : goal.returns-clause-added
returns-clause-added c = added-pairs c.args.self.now _ c.args.part c.requires.state c.requires.place (omega arith) refl
