use Rattle.std.proofs.Common.{rules, ◌≡◌, ℕ, List, ◌-◌, length, take, ap, sym, ◌∙◌, subst, false}
use Rattle.std.specs.List.{list_any}
use Rattle.std.specs.Str.{bytes_eq}
use Rattle.trace_builder.proofs.PlaceMaps.{front}
use Rattle.trace_builder.proofs.placing.put_with_type.Goals as goal

pub forget_last-requires-clause-new : goal.forget_last-requires-clause-new
forget_last-requires-clause-new c =
    let text = c.args.event.now.type_text.now in
    subst (λ (ts : List (List ℕ)). list_any (bytes_eq text) (take (length ts - 1) ts) ≡ false) (sym c.in_ok-add.ensures.ok)
    (ap (list_any (bytes_eq text)) (front c.args.types.now text) ∙ c.requires.new)

pub returns-else-is_err-clause-traces : goal.returns-else-is_err-clause-traces
returns-else-is_err-clause-traces c = search rules

pub returns-then-is_err-clause-err_traces : goal.returns-then-is_err-clause-err_traces
returns-then-is_err-clause-err_traces c = search rules
