use Rattle.std.proofs.Common.{List, ℕ, Err, ap, arith, inl, sym, subst}
use Rattle.std.specs.Io.KnownBytes.{Appends}
use Rattle.outside.specs.Sinks.{AppendsFront}
use Rattle.command_line.specs.Task.{task_held}
use Rattle.synoptic_cli.specs.Causes.{world}
use Rattle.synoptic_cli.specs.Task.{input_count, stages_of}
use Rattle.synoptic_cli.specs.Commands.{Answers}
use Rattle.synoptic_cli.proofs.Rules.{memory-ends}
use Rattle.synoptic_cli.proofs.Through.{read-faults, read-most}
use Rattle.synoptic_cli.proofs.Written.{limit-ends, limit-given, verdict-count, verdict-other, written-in-part, written-whole}
use Rattle.synoptic_cli.proofs.top.answer.Goals as goal

pub returns-in-Ok-write_whole-clause-cause : goal.returns-in-Ok-write_whole-clause-cause
returns-in-Ok-write_whole-clause-cause g c = λ words asks.
    let before = g.O.Sink.state c.args.out.now in
    let after = g.O.Sink.state c.write_whole.new.sink in
    let old = world (g.I.Inputs.state c.args.inputs.now) (g.P.Patterns.state c.args.patterns.now) before in
    let new = world (g.I.Inputs.state c.read_material.new.inputs) (g.P.Patterns.state c.read_material.new.patterns) after in
    written-whole (task_held c.args.task.now) words old new c.in-Ok.material c.in-Ok-answer.answer c.in-Ok.ensures.ok c.in-Ok-answer.ensures.0 c.in-Ok-answer.ensures.1
    (subst (Appends before.written after.written) c.as_slice.ensures c.in-Ok-write_whole.ensures.gives.0) c.in-Ok-write_whole.ensures.gives.1 asks

pub returns-clause-cause : goal.returns-clause-cause
returns-clause-cause g c = λ words asks.
    let before = g.O.Sink.state c.args.out.now in
    let after = g.O.Sink.state c.write_whole.new.sink in
    let old = world (g.I.Inputs.state c.args.inputs.now) (g.P.Patterns.state c.args.patterns.now) before in
    let new = world (g.I.Inputs.state c.read_material.new.inputs) (g.P.Patterns.state c.read_material.new.patterns) after in (
      task_held c.args.task.now,
      asks,
      written-in-part (task_held c.args.task.now) old new c.in-Ok.material c.in-Ok-answer.answer c.in-Ok.ensures.ok c.in-Ok-answer.ensures.0
          (subst (λ (t : List ℕ). AppendsFront before t after) c.as_slice.ensures c.in-Err-write_whole.ensures.gives.0) c.in-Err-write_whole.ensures.gives.1,
    )

pub returns-in-Err-Limit-clause-cause : goal.returns-in-Err-Limit-clause-cause
returns-in-Err-Limit-clause-cause g c = λ words asks.
    let given : Answers (task_held c.args.task.now) c.in-Ok.material (Err c.in-Err-Limit.kind) =
    limit-given (task_held c.args.task.now) c.in-Ok.material c.in-Err-Limit.field-0 c.in-Err-Limit.kind (assumption (c.in-Err-Limit.field-0-is, sym c.in-Err-Limit.field-0-is)) c.in-Err-Limit.ensures in
    limit-ends (task_held c.args.task.now) (g.I.Inputs.state c.args.inputs.now) (g.I.Inputs.state c.read_material.new.inputs) (g.P.Patterns.state c.args.patterns.now) (g.P.Patterns.state c.read_material.new.patterns)
    c.in-Ok.material c.in-Err-Limit.kind c.in-Ok.ensures.ok given words (g.O.Sink.state c.args.out.now) asks

pub returns-in-Err-clause-cause : goal.returns-in-Err-clause-cause
returns-in-Err-clause-cause g c = λ words asks. c.in-Err.ensures.err words (g.O.Sink.state c.args.out.now) asks

pub returns-in-Err-clause-memory : goal.returns-in-Err-clause-memory
returns-in-Err-clause-memory g c = λ is. c.in-Err.ensures.memory (ap Err is)

pub returns-in-Err-clause-count : goal.returns-in-Err-clause-count
returns-in-Err-clause-count g c = c.in-Err.ensures.count

pub returns-in-Err-clause-stays : goal.returns-in-Err-clause-stays
returns-in-Err-clause-stays g c = record { inputs = c.read_material.ensures.stays; patterns = c.read_material.ensures.kept }

pub returns-in-Err-Limit-clause-memory : goal.returns-in-Err-Limit-clause-memory
returns-in-Err-Limit-clause-memory g c = λ is. cc

pub returns-in-Err-Limit-clause-count : goal.returns-in-Err-Limit-clause-count
returns-in-Err-Limit-clause-count g c = c.in-Ok.ensures.count

pub returns-in-Err-Limit-clause-stays : goal.returns-in-Err-Limit-clause-stays
returns-in-Err-Limit-clause-stays g c = record { inputs = c.read_material.ensures.stays; patterns = c.read_material.ensures.kept }

pub returns-in-Err-Memory-clause-cause : goal.returns-in-Err-Memory-clause-cause
returns-in-Err-Memory-clause-cause g c = λ words asks.
    let task = task_held c.args.task.now in
    let old = g.I.Inputs.state c.args.inputs.now in
    let new = g.I.Inputs.state c.read_material.new.inputs in
    memory-ends task old new (g.P.Patterns.state c.args.patterns.now) (g.P.Patterns.state c.read_material.new.patterns) (read-most (input_count (stages_of task)) old new c.in-Ok.ensures.ok.read.inputs)
    (inl (input_count (stages_of task), omega arith, c.in-Ok.ensures.ok.read.inputs)) words (g.O.Sink.state c.args.out.now) asks

pub returns-in-Err-Memory-clause-memory : goal.returns-in-Err-Memory-clause-memory
returns-in-Err-Memory-clause-memory g c = λ is.
    let task = task_held c.args.task.now in
    read-faults (input_count (stages_of task)) (g.I.Inputs.state c.args.inputs.now) (g.I.Inputs.state c.read_material.new.inputs) c.in-Ok.ensures.ok.read.inputs

pub returns-in-Err-Memory-clause-count : goal.returns-in-Err-Memory-clause-count
returns-in-Err-Memory-clause-count g c = c.in-Ok.ensures.count

pub returns-in-Err-Memory-clause-stays : goal.returns-in-Err-Memory-clause-stays
returns-in-Err-Memory-clause-stays g c = record { inputs = c.read_material.ensures.stays; patterns = c.read_material.ensures.kept }

pub returns-in-Ok-write_whole-clause-memory : goal.returns-in-Ok-write_whole-clause-memory
returns-in-Ok-write_whole-clause-memory g c = λ is. absurd (verdict-other c.in-Ok-answer.answer.status c.in-Ok-answer.ensures.1 is)

pub returns-in-Ok-write_whole-clause-count : goal.returns-in-Ok-write_whole-clause-count
returns-in-Ok-write_whole-clause-count g c =
    verdict-count c.in-Ok-answer.answer.status (g.P.Patterns.state c.args.patterns.now) (g.P.Patterns.state c.read_material.new.patterns) c.in-Ok-answer.ensures.1 c.in-Ok.ensures.count

pub returns-in-Ok-write_whole-clause-stays : goal.returns-in-Ok-write_whole-clause-stays
returns-in-Ok-write_whole-clause-stays g c = record { inputs = c.read_material.ensures.stays; patterns = c.read_material.ensures.kept }

pub returns-clause-memory : goal.returns-clause-memory
returns-clause-memory g c = λ is. cc

pub returns-clause-count : goal.returns-clause-count
returns-clause-count g c = c.in-Ok.ensures.count

pub returns-clause-stays : goal.returns-clause-stays
returns-clause-stays g c = record { inputs = c.read_material.ensures.stays; patterns = c.read_material.ensures.kept }

pub returns-in-Err-clause-turn : goal.returns-in-Err-clause-turn
returns-in-Err-clause-turn g c = c.read_material.ensures.turn

pub returns-in-Err-Limit-clause-turn : goal.returns-in-Err-Limit-clause-turn
returns-in-Err-Limit-clause-turn g c = c.read_material.ensures.turn

pub returns-in-Err-Memory-clause-turn : goal.returns-in-Err-Memory-clause-turn
returns-in-Err-Memory-clause-turn g c = c.read_material.ensures.turn

pub returns-in-Ok-write_whole-clause-turn : goal.returns-in-Ok-write_whole-clause-turn
returns-in-Ok-write_whole-clause-turn g c = c.read_material.ensures.turn

pub returns-clause-turn : goal.returns-clause-turn
returns-clause-turn g c = c.read_material.ensures.turn
