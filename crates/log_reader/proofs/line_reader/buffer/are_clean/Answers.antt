use Rattle.std.proofs.Common.{rules}
use Rattle.log_reader.proofs.line_reader.buffer.are_clean.Goals as goal

pub returns : goal.returns
returns c = search rules
