use Rattle.std.proofs.Common.{◌∙◌, List, ℕ, ap, map, subst, sym}
use Rattle.std.specs.String.{string_bytes}
use Rattle.outside.specs.Turns.{OpensFirst}
use Rattle.synoptic_cli.specs.Causes.{names_of, world}
use Rattle.synoptic_cli.specs.Messages.{Tells}
use Rattle.command_line.specs.declared.given.ParseError.TheVariants as parse_error
use Rattle.events_cli.specs.Words.{task_for}
use Rattle.events_cli.proofs.Ended.{no-task-cause, no-task-told}
use Rattle.events_cli.proofs.top.run.Goals as goal

pub returns-in-Err-clause-cause : goal.returns-in-Err-clause-cause
returns-in-Err-clause-cause g c =
    no-task-cause parse_error.Memory (map string_bytes c.args.words.now) (world (g.I.Inputs.state c.args.inputs.now) (g.P.Patterns.state c.args.patterns.now) (g.O.Sink.state c.args.out.now)) (λ is. cc)

pub returns-in-Err-clause-told : goal.returns-in-Err-clause-told
returns-in-Err-clause-told g c =
    subst (λ (t : List ℕ). Tells t (g.E.ErrorStream.heard c.args.err.now) (g.E.ErrorStream.heard c.tell.new.err)) (no-task-told parse_error.Memory (task_for (map string_bytes c.args.words.now))) c.tell.ensures

pub returns-clause-cause : goal.returns-clause-cause
returns-clause-cause g c =
    c.run_given.ensures.cause (map string_bytes c.args.words.now) (sym c.mode_of.ensures) (sym (ap (map string_bytes) c.deref.ensures.value ∙ c.in-Ok.ensures))

pub returns-clause-memory : goal.returns-clause-memory
returns-clause-memory g c = c.run_given.ensures.memory

pub returns-clause-count : goal.returns-clause-count
returns-clause-count g c = c.run_given.ensures.count

pub returns-clause-stays : goal.returns-clause-stays
returns-clause-stays g c = c.run_given.ensures.stays

pub returns-clause-turn : goal.returns-clause-turn
returns-clause-turn g c =
    subst (λ (ws : List (List ℕ)). OpensFirst (names_of ws) (g.I.Inputs.state c.args.inputs.now) (g.I.Inputs.state c.run_given.new.inputs)) (ap (map string_bytes) c.deref.ensures.value ∙ c.in-Ok.ensures) c.run_given.ensures.turn

pub returns-clause-told : goal.returns-clause-told
returns-clause-told g c =
    c.run_given.ensures.told (map string_bytes c.args.words.now) (sym c.mode_of.ensures) (sym (ap (map string_bytes) c.deref.ensures.value ∙ c.in-Ok.ensures))
