use Rattle.std.proofs.Common.{rules}
use Rattle.outside.proofs.reading.read_piece.Goals as goal

pub returns-in-Err-clause-memory : goal.returns-in-Err-clause-memory
returns-in-Err-clause-memory g c = search rules
