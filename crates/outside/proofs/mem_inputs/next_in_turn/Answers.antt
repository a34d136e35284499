use Rattle.std.proofs.Common.{sym, ap, ◌∙◌}
use Rattle.std.proofs.lemmas.Bool.{ltb-true}
use Rattle.std.specs.Str.{bytes_eq}
use Rattle.outside.proofs.Turns.{turn-next}
use Rattle.outside.proofs.mem_inputs.next_in_turn.Goals as goal

pub returns-in-Some : goal.returns-in-Some
returns-in-Some c =
    sym (turn-next c.args.files.now c.args.name.now c.args.followed c.in_ok-count.count c.in-Some.file.now _ c.in_ok-count.was (ltb-true _ _ (sym c.in-Some.ensures.lookup.0)) c.in-Some.ensures.lookup.1
    (sym c.if-eq.true ∙ c.eq.ensures ∙ ap (λ bytes. bytes_eq bytes c.args.name.now) c.as_str.ensures.value))

pub returns-in_default : goal.returns-in_default
returns-in_default c =
    sym (turn-next c.args.files.now c.args.name.now c.args.followed c.in_ok-count.count c.in-Some.file.now _ c.in_ok-count.was (ltb-true _ _ (sym c.in-Some.ensures.lookup.0)) c.in-Some.ensures.lookup.1
    (sym c.if-eq.false ∙ c.eq.ensures ∙ ap (λ bytes. bytes_eq bytes c.args.name.now) c.as_str.ensures.value))
