use Rattle.std.proofs.Common.{List, ℕ, subst, sym}
use Rattle.line_rules.specs.Files.{AreRead, IsRefused}
use Rattle.line_rules.specs.Views.{rules_in}
use Rattle.synoptic_cli.specs.Halts.{EndsByRules, IsOfRules}
use Rattle.synoptic_cli.specs.declared.status.Status.{Status}
use Rattle.synoptic_cli.proofs.Rules.{fault-given, memory-given, missing-given, rules-read, rules-end, rules-status}
use Rattle.synoptic_cli.proofs.reading.read_rules.Goals as goal

pub returns-in-Ok-read-clause-ok : goal.returns-in-Ok-read-clause-ok
returns-in-Ok-read-clause-ok g c =
    let old = g.I.Inputs.state c.args.inputs.now in
    let new = g.I.Inputs.state c.read_input.new.inputs in
    let rules = rules_in c.in-Ok-read.rules in
    rules-read old new c.args.name.now c.in-Ok.bytes.items rules c.in-Ok.ensures.gives (subst (λ (bytes : List ℕ). AreRead bytes rules) c.deref.ensures.value c.in-Ok-read.ensures.ok)

pub returns-clause-err : goal.returns-clause-err
returns-clause-err g c =
    let old = g.I.Inputs.state c.args.inputs.now in
    let new = g.I.Inputs.state c.read_input.new.inputs in
    let before = g.P.Patterns.state c.args.patterns.now in
    let after = g.P.Patterns.state c.read.new.patterns in
    let name = c.args.name.now in
    subst (λ (status : Status). EndsByRules status name old new before after) (sym c.rules_answer.ensures)
    (rules-end old new before after name c.in-Ok.bytes.items c.in-Err.error c.in-Ok.ensures.gives
    (subst (λ (bytes : List ℕ). IsRefused bytes before after c.in-Err.error) c.deref.ensures.value c.in-Err.ensures.err))

pub returns-in-Err-Missing-clause-err : goal.returns-in-Err-Missing-clause-err
returns-in-Err-Missing-clause-err g c =
    missing-given (g.I.Inputs.state c.args.inputs.now) (g.I.Inputs.state c.read_input.new.inputs) (g.P.Patterns.state c.args.patterns.now) c.args.name.now c.in-Err-Missing.field-0
    (assumption (c.in-Err-Missing.field-0-is, sym c.in-Err-Missing.field-0-is)) c.in-Err-Missing.ensures.gives

pub returns-in-Err-Fault-clause-err : goal.returns-in-Err-Fault-clause-err
returns-in-Err-Fault-clause-err g c =
    fault-given (g.I.Inputs.state c.args.inputs.now) (g.I.Inputs.state c.read_input.new.inputs) (g.P.Patterns.state c.args.patterns.now) c.args.name.now c.in-Err-Fault.field-0
    (assumption (c.in-Err-Fault.field-0-is, sym c.in-Err-Fault.field-0-is)) c.in-Err-Fault.ensures.gives

pub returns-in-Err-Fault-clause-memory : goal.returns-in-Err-Fault-clause-memory
returns-in-Err-Fault-clause-memory g c = λ is. cc

pub returns-in-Err-Memory-clause-err : goal.returns-in-Err-Memory-clause-err
returns-in-Err-Memory-clause-err g c =
    memory-given (g.I.Inputs.state c.args.inputs.now) (g.I.Inputs.state c.read_input.new.inputs) (g.P.Patterns.state c.args.patterns.now) (g.P.Patterns.state c.args.patterns.now) c.args.name.now
    c.in-Err-Memory.field-0 (assumption (c.in-Err-Memory.field-0-is, sym c.in-Err-Memory.field-0-is)) c.in-Err-Memory.ensures.gives

pub returns-clause-refused : goal.returns-clause-refused
returns-clause-refused g c = subst IsOfRules (sym c.rules_answer.ensures) (rules-status c.in-Err.error)
