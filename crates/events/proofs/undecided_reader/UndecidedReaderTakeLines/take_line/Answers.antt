use Rattle.std.proofs.Common.{refl, inl}
use Rattle.log_reader.proofs.TakesLines.{refuses-line}
use Rattle.events.proofs.Collecting.{collects-line, refuses-undecided}
use Rattle.events.proofs.undecided_reader.UndecidedReaderTakeLines.take_line.Goals as goal

pub returns-in-Err-clause-err : goal.returns-in-Err-clause-err
returns-in-Err-clause-err c =
    refuses-undecided c.args.at c.args.line.now c.args.self.now c.in-Err.error (refuses-line c.args.at c.args.line.now c.args.self.now.reader c.in-Err.error c.in-Err.ensures.err)

pub returns-in-Ok-put_undecided-clause-ok : goal.returns-in-Ok-put_undecided-clause-ok
returns-in-Ok-put_undecided-clause-ok c =
    collects-line c.args.at c.args.line.now c.args.self.now (record { reader = c.read_line.new.self; lines = c.put_undecided.new.lines }) c.in-Ok.taken c.in-Ok.ensures.ok c.in-Ok.ensures.taken c.in-Ok-put_undecided.ensures

pub returns-in-Err-put_undecided-clause-err : goal.returns-in-Err-put_undecided-clause-err
returns-in-Err-put_undecided-clause-err c = λ piece is lines has. inl refl
