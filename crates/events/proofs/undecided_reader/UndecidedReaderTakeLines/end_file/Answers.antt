use Rattle.std.proofs.Common.{refl}
use Rattle.log_reader.proofs.TakesLines.{ends-file}
use Rattle.events.proofs.Collecting.{ends-file-of-undecided}
use Rattle.events.proofs.undecided_reader.UndecidedReaderTakeLines.end_file.Goals as goal

pub returns : goal.returns
returns c =
    ends-file-of-undecided c.args.self.now (record { reader = c.start_file.new.self; lines = c.args.self.now.lines })
    (ends-file c.args.self.now.reader c.start_file.new.self c.start_file.ensures.section c.start_file.ensures.few c.start_file.ensures.setting c.start_file.ensures.ready c.start_file.ensures.log) refl
