use Rattle.std.proofs.Common.{List, ℕ, Err, ap, sym, subst}
use Rattle.std.specs.Io.KnownBytes.{Appends}
use Rattle.outside.specs.Sinks.{AppendsFront}
use Rattle.command_line.specs.Task.{task_held}
use Rattle.synoptic_cli.specs.Causes.{world}
use Rattle.synoptic_cli.specs.declared.status.Status.TheVariants.{Memory}
use Rattle.events_cli.specs.declared.mode.Mode.{Mode}
use Rattle.events_cli.specs.Causes.{HasAnswer}
use Rattle.events_cli.specs.Words.{given_words}
use Rattle.events_cli.proofs.Ended.{asked, given-count, given-other, refused-cause, written-cause}
use Rattle.events_cli.proofs.top.answer.Goals as goal

pub returns-in-Ok-write_whole-clause-cause : goal.returns-in-Ok-write_whole-clause-cause
returns-in-Ok-write_whole-clause-cause g c = λ words of asks.
    let task = task_held c.args.task.now in
    let before = g.O.Sink.state c.args.out.now in
    let after = g.O.Sink.state c.write_whole.new.sink in
    let old = world (g.I.Inputs.state c.args.inputs.now) (g.P.Patterns.state c.args.patterns.now) before in
    let new = world (g.I.Inputs.state c.read_answer.new.inputs) (g.P.Patterns.state c.read_answer.new.patterns) after in
    written-cause c.in-Ok.answer.ending words task old new c.in-Ok.ensures.given (asked words c.args.mode task of asks c.requires.fits)
    (record {
      text = c.in-Ok.answer.text;
      has = subst (λ (m : Mode). HasAnswer m task c.in-Ok.answer old.inputs new.inputs) (sym of) c.in-Ok.ensures.ok;
      written = subst (Appends before.written after.written) c.as_slice.ensures c.in-Ok-write_whole.ensures.gives.0;
      faults = c.in-Ok-write_whole.ensures.gives.1;
    })

pub returns-clause-cause : goal.returns-clause-cause
returns-clause-cause g c = λ words of asks.
    let task = task_held c.args.task.now in
    let before = g.O.Sink.state c.args.out.now in
    let after = g.O.Sink.state c.write_whole.new.sink in
    let old = world (g.I.Inputs.state c.args.inputs.now) (g.P.Patterns.state c.args.patterns.now) before in
    let new = world (g.I.Inputs.state c.read_answer.new.inputs) (g.P.Patterns.state c.read_answer.new.patterns) after in (
      task,
      asked words c.args.mode task of asks c.requires.fits,
      record {
        whole = c.in-Ok.answer;
        has = subst (λ (m : Mode). HasAnswer m task c.in-Ok.answer old.inputs new.inputs) (sym of) c.in-Ok.ensures.ok;
        written = subst (λ (t : List ℕ). AppendsFront before t after) c.as_slice.ensures c.in-Err-write_whole.ensures.gives.0;
        rose = c.in-Err-write_whole.ensures.gives.1;
      },
    )

pub returns-in-Err-clause-cause : goal.returns-in-Err-clause-cause
returns-in-Err-clause-cause g c = λ words of asks.
    refused-cause c.in-Err.status words _ _ c.in-Err.ensures.refused (c.in-Err.ensures.err (given_words words) (g.O.Sink.state c.args.out.now) asks)

pub returns-in-Err-clause-memory : goal.returns-in-Err-clause-memory
returns-in-Err-clause-memory g c = λ is. c.in-Err.ensures.memory (ap Err (cc is))

pub returns-in-Err-clause-count : goal.returns-in-Err-clause-count
returns-in-Err-clause-count g c = c.in-Err.ensures.count

pub returns-in-Err-clause-stays : goal.returns-in-Err-clause-stays
returns-in-Err-clause-stays g c = record { inputs = c.read_answer.ensures.stays; patterns = c.read_answer.ensures.kept }

pub returns-in-Ok-write_whole-clause-memory : goal.returns-in-Ok-write_whole-clause-memory
returns-in-Ok-write_whole-clause-memory g c = λ is. absurd (given-other c.in-Ok.answer.ending Memory c.in-Ok.ensures.given is)

pub returns-in-Ok-write_whole-clause-count : goal.returns-in-Ok-write_whole-clause-count
returns-in-Ok-write_whole-clause-count g c =
    given-count c.in-Ok.answer.ending (g.P.Patterns.state c.args.patterns.now) (g.P.Patterns.state c.read_answer.new.patterns) c.in-Ok.ensures.given c.in-Ok.ensures.count

pub returns-in-Ok-write_whole-clause-stays : goal.returns-in-Ok-write_whole-clause-stays
returns-in-Ok-write_whole-clause-stays g c = record { inputs = c.read_answer.ensures.stays; patterns = c.read_answer.ensures.kept }

pub returns-clause-memory : goal.returns-clause-memory
returns-clause-memory g c = λ is. cc

pub returns-clause-count : goal.returns-clause-count
returns-clause-count g c = c.in-Ok.ensures.count

pub returns-clause-stays : goal.returns-clause-stays
returns-clause-stays g c = record { inputs = c.read_answer.ensures.stays; patterns = c.read_answer.ensures.kept }

pub returns-in-Err-clause-turn : goal.returns-in-Err-clause-turn
returns-in-Err-clause-turn g c = c.read_answer.ensures.turn

pub returns-in-Ok-write_whole-clause-turn : goal.returns-in-Ok-write_whole-clause-turn
returns-in-Ok-write_whole-clause-turn g c = c.read_answer.ensures.turn

pub returns-clause-turn : goal.returns-clause-turn
returns-clause-turn g c = c.read_answer.ensures.turn
