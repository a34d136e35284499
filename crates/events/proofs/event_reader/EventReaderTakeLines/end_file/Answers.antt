use Rattle.std.proofs.Common.{refl}
use Rattle.log_reader.proofs.TakesLines.{ends-file}
use Rattle.events.proofs.Locating.{ends-file-of-events}
use Rattle.events.proofs.event_reader.EventReaderTakeLines.end_file.Goals as goal

pub returns : goal.returns
returns c =
    ends-file-of-events c.args.self.now (record { reader = c.start_file.new.self; located = c.args.self.now.located })
    (ends-file c.args.self.now.reader c.start_file.new.self c.start_file.ensures.section c.start_file.ensures.few c.start_file.ensures.setting c.start_file.ensures.ready c.start_file.ensures.log) refl
