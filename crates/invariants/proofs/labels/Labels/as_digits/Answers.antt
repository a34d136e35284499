use Rattle.std.proofs.Common.{◌≡◌, ◌+◌, ◌-◌, All, drop, map, take, sym, ap, ◌∙◌, ℕ, List, arith, subst}
use Rattle.invariants.specs.Labels.{IsLabel, digit_of}
use Rattle.invariants.specs.LabelDigits.{AreDigits, digits_in, numbers_in}
use Rattle.invariants.specs.declared.labels.Digits.TheVariants.{Few, Part}
use Rattle.invariants.proofs.LabelDigits.{digits_back, numbers_are_labels}
use Rattle.invariants.proofs.labels.Labels.as_digits.Goals as goal

pub returns-in-Few-clause-digits : goal.returns-in-Few-clause-digits
returns-in-Few-clause-digits c =
    let kept : AreDigits (Few c.in-Few.count c.in-Few.bytes) = subst AreDigits c.in-Few.is c.self.invariant in
    digits_back (take c.in-Few.count c.in-Few.bytes) kept.1 ∙ ap (λ (ns : List ℕ). map digit_of ns) (sym (ap numbers_in c.in-Few.is) ∙ c.self.view_is)

pub returns-in-Few-clause-labels : goal.returns-in-Few-clause-labels
returns-in-Few-clause-labels c =
    subst (λ (ns : List ℕ). All IsLabel ns) c.self.view_is (numbers_are_labels (digits_in c.self.inside.digits) c.self.invariant.1)

pub returns-in-Part-clause-digits : goal.returns-in-Part-clause-digits
returns-in-Part-clause-digits c =
    let kept : AreDigits (Part c.in-Part.text c.in-Part.from c.in-Part.count) = subst AreDigits c.in-Part.is c.self.invariant in
    let count : c.in-Part.from + c.in-Part.count - c.in-Part.from ≡ c.in-Part.count = omega arith in
    let text : c.as_slice.result.now ≡ c.in-Part.text.value.items = c.as_slice.ensures.value ∙ ap (λ v. v.items) c.deref.ensures in
    rw (count, text) (digits_back (take c.in-Part.count (drop c.in-Part.from c.in-Part.text.value.items)) kept.1 ∙ ap (λ (ns : List ℕ). map digit_of ns) (sym (ap numbers_in c.in-Part.is) ∙ c.self.view_is))

pub returns-in-Part-clause-labels : goal.returns-in-Part-clause-labels
returns-in-Part-clause-labels c =
    subst (λ (ns : List ℕ). All IsLabel ns) c.self.view_is (numbers_are_labels (digits_in c.self.inside.digits) c.self.invariant.1)
