use Rattle.std.proofs.Common.{◌-◌, arith}
use Rattle.std.proofs.lemmas.Nat.{and_le_r}
use Rattle.path_finder.proofs.Lowest.{lowest-off}
use Rattle.path_finder.proofs.words.without_lowest.Goals as goal

pub returns-clause-there : goal.returns-clause-there
returns-clause-there c p is = (lowest-off p c.args.word is).0

pub returns-clause-others : goal.returns-clause-others
returns-clause-others c p is i below ne = (lowest-off p c.args.word is).1 i ne

pub returns-clause-fewer : goal.returns-clause-fewer
returns-clause-fewer c = omega (arith, c.requires, and_le_r c.args.word (c.args.word - 1))
