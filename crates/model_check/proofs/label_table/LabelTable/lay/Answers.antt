use Rattle.std.proofs.Common.{◌≡◌, ℕ, List, length, get_or, map, sym, ◌∙◌, ap, ap₂, subst, arith}
use Rattle.std.specs.List.{All}
use Rattle.std.proofs.lemmas.List.{with_items_is}
use Rattle.std.proofs.lemmas.List.Elements.{All-from_recursion}
use Rattle.limits.specs.declared.TheConstants.{MAX_PARTITIONS}
use Rattle.invariants.specs.declared.records.Partition.{Partition}
use Rattle.invariants.specs.Labels.{IsDigit, number_of}
use Rattle.invariants.proofs.LabelDigits.{digits_are_digits, numbers_back}
use Rattle.models.specs.Models.{label_at}
use Rattle.model_check.specs.Rows.{AreApart, IsMarkable}
use Rattle.model_check.proofs.Building.{ascends-apart, markable}
use Rattle.model_check.proofs.label_table.LabelTable.lay.Goals as goal

pub lay_labels-requires-clause-markable : goal.lay_labels-requires-clause-markable
lay_labels-requires-clause-markable c =
    subst (λ (xs : List Partition). All IsMarkable xs) (sym c.as_slice.ensures) (All-from_recursion IsMarkable c.args.model.now.partitions (markable c.args.model.now c.requires.shaped))

pub lay_labels-requires-clause-apart : goal.lay_labels-requires-clause-apart
lay_labels-requires-clause-apart c = subst (λ (xs : List Partition). AreApart xs) (sym c.as_slice.ensures) (ascends-apart c.args.model.now.partitions c.requires.shaped.partitions.order)

pub lay_labels-requires-clause-given : goal.lay_labels-requires-clause-given
lay_labels-requires-clause-given c = subst (λ (xs : List ℕ). All IsDigit xs) (sym c.as_digits.ensures.digits) (digits_are_digits c.args.listed.now.labels c.as_digits.ensures.labels)

pub invariant_of-self : goal.invariant_of-self
invariant_of-self c =
    let same : length c.deref_mut.result.now ≡ length c.self.inside.sets.items = ap length c.deref_mut.ensures.value in
    let size : length c.self.inside.sets.items ≡ MAX_PARTITIONS = c.self.invariant in
    ap length (with_items_is c.self.inside.sets c.lay_labels.new.sets (omega (arith, c.lay_labels.auto.sets, c.deref_mut.ensures.len)))
    ∙ omega (arith, c.lay_labels.auto.sets, same, size)

pub returns : goal.returns
returns c = λ p.
    ap (λ (xs : List ℕ). get_or xs p 0) (with_items_is c.self.inside.sets c.lay_labels.new.sets (omega (arith, c.lay_labels.auto.sets, c.deref_mut.ensures.len)))
    ∙ c.lay_labels.ensures p ∙ ap₂ (λ (xs : List Partition) (ns : List ℕ). label_at p xs ns) c.as_slice.ensures (ap (λ (ds : List ℕ). map number_of ds) c.as_digits.ensures.digits ∙ numbers_back c.args.listed.now.labels)
