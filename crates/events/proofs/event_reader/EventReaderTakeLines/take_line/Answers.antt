use Rattle.std.proofs.Common.{refl, inl}
use Rattle.log_reader.proofs.TakesLines.{refuses-line}
use Rattle.events.proofs.Locating.{locates-line, refuses-event}
use Rattle.events.proofs.event_reader.EventReaderTakeLines.take_line.Goals as goal

pub returns-in-Err-clause-err : goal.returns-in-Err-clause-err
returns-in-Err-clause-err c =
    refuses-event c.args.at c.args.line.now c.args.self.now c.in-Err.error (refuses-line c.args.at c.args.line.now c.args.self.now.reader c.in-Err.error c.in-Err.ensures.err)

pub returns-in-Ok-put_event-clause-ok : goal.returns-in-Ok-put_event-clause-ok
returns-in-Ok-put_event-clause-ok c =
    locates-line c.args.at c.args.line.now c.args.self.now (record { reader = c.read_line.new.self; located = c.put_event.new.events }) c.in-Ok.taken c.in-Ok.ensures.ok c.in-Ok.ensures.taken c.in-Ok-put_event.ensures

pub returns-in-Err-put_event-clause-err : goal.returns-in-Err-put_event-clause-err
returns-in-Err-put_event-clause-err c = λ piece is lines has. inl refl
