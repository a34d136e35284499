use Rattle.log_reader.proofs.TakesLines.{refuses-line, takes-line}
use Rattle.log_reader.proofs.take_lines.LogReaderTakeLines.take_line.Goals as goal

pub returns-in-Ok-clause-ok : goal.returns-in-Ok-clause-ok
returns-in-Ok-clause-ok c = takes-line c.args.at c.args.line.now c.args.self.now c.read_line.new.self c.in-Ok.ensures.ok

pub returns-in-Err-clause-err : goal.returns-in-Err-clause-err
returns-in-Err-clause-err c = refuses-line c.args.at c.args.line.now c.args.self.now c.in-Err.error c.in-Err.ensures.err
