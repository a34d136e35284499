use Rattle.std.proofs.Common.{rules}
use Rattle.log_reader.proofs.so_far.LogSoFar.begin_section.Goals as goal

pub returns : goal.returns
returns c = search rules
