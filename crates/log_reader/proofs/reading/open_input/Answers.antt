use Rattle.std.proofs.Common.{rules}
use Rattle.log_reader.proofs.reading.open_input.Goals as goal

pub returns-in-Err-Missing-clause-err : goal.returns-in-Err-Missing-clause-err
returns-in-Err-Missing-clause-err g c = search rules

pub returns-in-Err-Failed-clause-err : goal.returns-in-Err-Failed-clause-err
returns-in-Err-Failed-clause-err g c = search rules
