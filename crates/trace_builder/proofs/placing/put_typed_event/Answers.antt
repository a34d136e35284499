use Rattle.std.proofs.Common.{rules, ◌≡◌, arith, sym, ◌∙◌, false}
use Rattle.std.proofs.lemmas.Bool.{cond-false}
use Rattle.std.specs.List.{list_any}
use Rattle.std.specs.Str.{bytes_eq}
use Rattle.trace_keys.proofs.Positions.{position-le}
use Rattle.trace_builder.proofs.placing.put_typed_event.Goals as goal

pub put_with_type-requires-clause-new : goal.put_with_type-requires-clause-new
put_with_type-requires-clause-new c = c.requires.new.1 (omega (arith, c.requires.place, position-le (bytes_eq c.args.event.now.type_text.now) c.args.types.now, c.len.ensures))

pub returns-clause-types : goal.returns-clause-types
returns-clause-types c =
    let text = c.args.event.now.type_text.now in
    let none : list_any (bytes_eq text) c.args.types.now ≡ false =
    c.requires.new.1 (omega (arith, c.requires.place, position-le (bytes_eq text) c.args.types.now, c.len.ensures)) in
    c.in_ok-trace-2.ensures.types ∙ sym (cond-false _ _ _ none)

pub returns-then-place-len-clause-traces : goal.returns-then-place-len-clause-traces
returns-then-place-len-clause-traces c = search rules
