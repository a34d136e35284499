use Rattle.log_reader.proofs.TakesLines.{ends-file}
use Rattle.log_reader.proofs.take_lines.LogReaderTakeLines.end_file.Goals as goal

pub returns : goal.returns
returns c = ends-file c.args.self.now c.start_file.new.self c.start_file.ensures.section c.start_file.ensures.few c.start_file.ensures.setting c.start_file.ensures.ready c.start_file.ensures.log
