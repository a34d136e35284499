use Rattle.std.proofs.Common.{◌+◌, ◌*◌, refl, arith}
use Rattle.path_finder.proofs.PairSets.{added-marked, added-pairs}
use Rattle.path_finder.proofs.pair_set.PairSet.add.Goals as goal

pub returns-clause-marked : goal.returns-clause-marked
returns-clause-marked c =
    added-marked c.args.self.now.words c.args.self.now.marks (c.args.part.state * 16 + c.args.part.place) _ (omega (arith, c.requires.state, c.requires.place)) (omega arith) c.requires.marked

pub returns-clause-added : goal.returns-clause-added
returns-clause-added c = added-pairs c.args.self.now _ c.args.part c.requires.state c.requires.place (omega arith) refl
