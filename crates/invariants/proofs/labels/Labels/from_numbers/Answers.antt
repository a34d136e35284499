use Rattle.std.proofs.Common.{◌≡◌, All, IfOk, map, sym, ap, ◌∙◌, ℕ, List, arith, subst}
use Rattle.std.proofs.lemmas.List.{with_items_is}
use Rattle.invariants.specs.Labels.{IsDigit, digit_of, number_of}
use Rattle.invariants.proofs.LabelDigits.{digits_are_digits, numbers_back}
use Rattle.invariants.proofs.labels.Labels.from_numbers.Goals as goal

pub held-requires : goal.held-requires
held-requires c =
    let written = with_items_is c.args.numbers c.to_digits.new.numbers (omega (arith, c.to_digits.auto.numbers, c.as_mut_slice.ensures.len)) in
    let made : c.to_digits.new.numbers ≡ map digit_of c.args.numbers.items = c.to_digits.ensures ∙ ap (λ (ns : List ℕ). map digit_of ns) c.as_mut_slice.ensures.value in
    subst (λ (ds : List ℕ). All IsDigit ds) (sym (written ∙ made)) (digits_are_digits c.args.numbers.items c.requires)

pub returns : goal.returns
returns c =
    let written = with_items_is c.args.numbers c.to_digits.new.numbers (omega (arith, c.to_digits.auto.numbers, c.as_mut_slice.ensures.len)) in
    let made : c.to_digits.new.numbers ≡ map digit_of c.args.numbers.items = c.to_digits.ensures ∙ ap (λ (ns : List ℕ). map digit_of ns) c.as_mut_slice.ensures.value in
    subst (λ (ns : List ℕ). IfOk c.held.result (λ labels. labels ≡ ns)) (ap (λ (ds : List ℕ). map number_of ds) (written ∙ made) ∙ numbers_back c.args.numbers.items) c.held.ensures
