use Rattle.std.proofs.Common.{◌+◌, sym, ap, ◌∙◌, arith}
use Rattle.std.proofs.lemmas.Bool.{cond-true}
use Rattle.std.specs.Str.{bytes_eq}
use Rattle.limits.specs.declared.TheConstants.{FIRST_TYPE}
use Rattle.trace_keys.specs.Keys.{Key}
use Rattle.traces.specs.Words.{Gathering, with_event}
use Rattle.traces.proofs.Grown.{position-within}
use Rattle.trace_builder.specs.Placed.{key_packed}
use Rattle.trace_builder.proofs.Places.{placed-is}
use Rattle.trace_builder.proofs.placing.put_packed.Goals as goal

pub returns-in_ok-trace-in-Some-clause-known : goal.returns-in_ok-trace-in-Some-clause-known
returns-in_ok-trace-in-Some-clause-known c = sym (cond-true _ _ _ c.in-Some.ensures.known)

pub returns-in_ok-trace-in-Some-clause-put : goal.returns-in_ok-trace-in-Some-clause-put
returns-in_ok-trace-in-Some-clause-put c =
    let key : Key = key_packed c.args.key in
    c.in_ok-trace-in-Some.ensures.ok ∙ ap (λ n. with_event c.args.traces.now key (n + FIRST_TYPE) c.args.time) c.in-Some.ensures.place

pub overflow_add-number : goal.overflow_add-number
overflow_add-number c = omega (arith, c.requires.few, c.in-Some.ensures.place, position-within (bytes_eq c.args.type_text.now) c.args.types.now c.in-Some.ensures.known)

pub overflow_cast-number-in-Some : goal.overflow_cast-number-in-Some
overflow_cast-number-in-Some c = omega (arith, c.requires.few, c.in-Some.ensures.place, position-within (bytes_eq c.args.type_text.now) c.args.types.now c.in-Some.ensures.known)

pub returns-in_ok-trace-in-Some-clause-placed : goal.returns-in_ok-trace-in-Some-clause-placed
returns-in_ok-trace-in-Some-clause-placed c =
    let key : Key = key_packed c.args.key in
    let gathering : Gathering = record { types = c.args.types.now; traces = c.args.traces.now } in
    placed-is gathering key c.args.type_text.now c.in_ok-trace-in-Some.trace c.in-Some.place c.in_ok-trace-in-Some.ensures.place c.in-Some.ensures.place
