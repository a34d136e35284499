use Rattle.std.proofs.Common.{◌≡◌, ◌≤◌, All, length, take, sym, ap, ◌∙◌, ℕ, List, arith, subst, length-take-le}
use Rattle.std.proofs.lemmas.List.{length-map}
use Rattle.invariants.specs.Labels.{IsLabel, number_of}
use Rattle.invariants.specs.LabelDigits.{AreDigits, digits_in, numbers_in}
use Rattle.invariants.specs.declared.labels.Digits.TheVariants.{Few}
use Rattle.invariants.proofs.LabelDigits.{numbers_are_labels}
use Rattle.invariants.proofs.labels.Labels.len.Goals as goal

pub returns-in-Few-clause-count : goal.returns-in-Few-clause-count
returns-in-Few-clause-count c =
    let kept : AreDigits (Few c.in-Few.count c.in-Few.bytes) = subst AreDigits c.in-Few.is c.self.invariant in
    let small : c.in-Few.count ≤ 16 = kept.0.0 in
    let size : length c.in-Few.bytes ≡ 16 = kept.0.1 in
    let within : c.in-Few.count ≤ length c.in-Few.bytes = omega (arith, small, size) in
    let seen : numbers_in (Few c.in-Few.count c.in-Few.bytes) ≡ c.args.self.now = sym (ap numbers_in c.in-Few.is) ∙ c.self.view_is in
    sym (ap (λ (ns : List ℕ). length ns) (sym seen) ∙ length-map (take c.in-Few.count c.in-Few.bytes) number_of ∙ length-take-le c.in-Few.count c.in-Few.bytes within)

pub returns-in-Few-clause-labels : goal.returns-in-Few-clause-labels
returns-in-Few-clause-labels c =
    subst (λ (ns : List ℕ). All IsLabel ns) c.self.view_is (numbers_are_labels (digits_in c.self.inside.digits) c.self.invariant.1)

pub returns-in-Part-clause-labels : goal.returns-in-Part-clause-labels
returns-in-Part-clause-labels c =
    subst (λ (ns : List ℕ). All IsLabel ns) c.self.view_is (numbers_are_labels (digits_in c.self.inside.digits) c.self.invariant.1)
