use Rattle.std.proofs.Common.{rules}
use Rattle.splitter.proofs.stitcher.Stitcher.make.Goals as goal

pub returns-clause-never : goal.returns-clause-never
returns-clause-never c = search rules
