use Rattle.std.proofs.Common.{sym, ◌∙◌, ap, slice_get, true≢false, arith}
use Rattle.std.proofs.lemmas.Option.{same_Some, none-some}
use Rattle.trace_keys.specs.Keys.{Key}
use Rattle.trace_keys.proofs.Keys.{told-key}
use Rattle.key_table.proofs.Placed.{home-is, new-by-slot, new-by-rest}
use Rattle.key_table.proofs.table.finding.find_in_rest.Goals as goal

pub returns-in-Some-clause-none : goal.returns-in-Some-clause-none
returns-in-Some-clause-none c = λ is.
    let key : Key = c.args.key.now in
    let home = home-is key c.fingerprint.result c.mix.result c.args.shift c.home_of_mix.result c.fingerprint.ensures c.mix.ensures c.home_of_mix.ensures.value in
    let at = c.in-Some.ensures.some in
    new-by-slot c.args.slots.now c.args.shift c.args.rest.now.entries c.args.keys.now key c.in-Some.field-0 c.requires.placed c.requires.nowhere
    (omega (arith, at.0, home)) (omega (arith, at.1, home)) at.2

pub returns-in_default-2-clause-none : goal.returns-in_default-2-clause-none
returns-in_default-2-clause-none c = λ is.
    let key : Key = c.args.key.now in
    new-by-rest c.args.slots.now c.args.shift c.args.rest.now.entries c.args.keys.now key c.requires.placed c.requires.nowhere
    (λ place found stands.
    let here = same_Some c.in-Some-2.place place (sym c.in-Some-2.is ∙ (c.in_ok-place.ensures ∙ found)) in
    true≢false (sym (told-key _ key (ap (slice_get c.args.keys.now) here ∙ stands)) ∙ (sym c.is_key_at.ensures ∙ c.if-is_key_at.false)))

pub returns-in_default-2-2-clause-none : goal.returns-in_default-2-2-clause-none
returns-in_default-2-2-clause-none c = λ is.
    let key : Key = c.args.key.now in
    new-by-rest c.args.slots.now c.args.shift c.args.rest.now.entries c.args.keys.now key c.requires.placed c.requires.nowhere
    (λ place found stands. none-some place (sym c.in_default-2.is ∙ (c.in_ok-place.ensures ∙ found)))
