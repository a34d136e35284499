use Rattle.std.proofs.Common.{◌≡◌, ◌+◌, ◌-◌, All, ℕ, List, drop, map, take, sym, ap, ◌∙◌, arith, subst}
use Rattle.json.specs.Print.{escape}
use Rattle.invariants.specs.Labels.{IsDigit, digit_of}
use Rattle.invariants.proofs.LabelDigits.{digits_back}
use Rattle.model_reader.proofs.Escapes.{labels_themselves}
use Rattle.model_reader.proofs.labels.labels_at.Goals as goal

pub returns-in-Ok-clause-text : goal.returns-in-Ok-clause-text
returns-in-Ok-clause-text c =
    let bytes : List ℕ = take c.args.count (drop c.args.from c.args.text.now.value.items) in
    let count : c.args.from + c.args.count - c.args.from ≡ c.args.count = omega arith in
    let text : c.as_slice.result.now ≡ c.args.text.now.value.items = c.as_slice.ensures.value ∙ ap (λ v. v.items) c.deref.ensures in
    let all : All IsDigit bytes = rw (count, text) at c.are_digits.ensures.0 c.if-not-are_digits.false in
    digits_back bytes all ∙ ap (λ (ns : List ℕ). map digit_of ns) (sym c.in-Ok.ensures)

pub returns-in-Ok-clause-plain : goal.returns-in-Ok-clause-plain
returns-in-Ok-clause-plain c =
    let bytes : List ℕ = take c.args.count (drop c.args.from c.args.text.now.value.items) in
    let count : c.args.from + c.args.count - c.args.from ≡ c.args.count = omega arith in
    let text : c.as_slice.result.now ≡ c.args.text.now.value.items = c.as_slice.ensures.value ∙ ap (λ v. v.items) c.deref.ensures in
    let all : All IsDigit bytes = rw (count, text) at c.are_digits.ensures.0 c.if-not-are_digits.false in
    subst (λ (ds : List ℕ). escape ds ≡ ds) (digits_back bytes all ∙ ap (λ (ns : List ℕ). map digit_of ns) (sym c.in-Ok.ensures)) (labels_themselves bytes all)
