use Rattle.std.proofs.Common.{◌≡◌, ◌+◌, ◌<◌, ◌≤◌, ◌-◌, ℕ, List, Some, slice_get, length, map, get_or, sym, ◌∙◌, ap, subst, subst₂, ◌⊎◌, inl, inr, arith}
use Rattle.std.specs.List.{All}
use Rattle.std.proofs.lemmas.Bool.{cases_lt}
use Rattle.std.proofs.lemmas.List.Elements.{All-from_recursion}
use Rattle.std.proofs.lemmas.Option.{slice_get_read}
use Rattle.invariants.specs.declared.records.Listed.{Listed}
use Rattle.invariants.specs.declared.records.Partition.{Partition}
use Rattle.invariants.specs.Labels.{IsDigit, number_of}
use Rattle.invariants.proofs.LabelDigits.{digits_are_digits, numbers_back}
use Rattle.model_check.specs.Rows.{AreApart, IsMarkable}
use Rattle.model_check.specs.Columns.{AreInColumn}
use Rattle.model_check.specs.declared.columns.TheConstants.{TOGETHER}
use Rattle.model_check.proofs.Building.{ascends-apart, markable}
use Rattle.model_check.proofs.Together.{labels-more, labels-end}
use Rattle.model_check.proofs.columns.fill_columns.Goals as goal

pub fill_column-requires-clause-markable : goal.fill_column-requires-clause-markable
fill_column-requires-clause-markable c =
    subst (λ (xs : List Partition). All IsMarkable xs) (sym c.as_slice-partitions.ensures) (All-from_recursion IsMarkable c.args.model.now.partitions (markable c.args.model.now c.requires.shaped))

pub fill_column-requires-clause-apart : goal.fill_column-requires-clause-apart
fill_column-requires-clause-apart c = subst (λ (xs : List Partition). AreApart xs) (sym c.as_slice-partitions.ensures) (ascends-apart c.args.model.now.partitions c.requires.shaped.partitions.order)

pub fill_column-requires-clause-given : goal.fill_column-requires-clause-given
fill_column-requires-clause-given c = subst (λ (xs : List ℕ). All IsDigit xs) (sym c.as_digits.ensures.digits) (digits_are_digits (get_or c.as_slice-invariants.result.now (c.args.from + c.loop-k.k) c.index-invariants-from.result).labels c.as_digits.ensures.labels)

pub loop-k-preserved : goal.loop-k-preserved
loop-k-preserved c =
    let m = c.args.model.now in
    let read : Listed = c.index-invariants-from.result in
    let x : Listed = get_or c.as_slice-invariants.result.now (c.args.from + c.loop-k.k) read in
    let labels : List ℕ = c.fill_column.new.columns.labels.items in
    let low : c.loop-k.k < TOGETHER = omega (arith, c.loop-k-test.true, c.min-k-end.ensures, c.loop-k.auto.k-end) in
    let there : slice_get m.invariants (c.args.from + c.loop-k.k) ≡ Some x =
    slice_get_read m.invariants (length c.as_slice-invariants.result.now) (c.args.from + c.loop-k.k) read (ap length c.as_slice-invariants.ensures) (omega (arith, c.loop-k-test.true, c.min-k-end.ensures, c.loop-k.auto.k-end))
    (c.index-invariants-from.is ∙ ap (λ (xs : List Listed). get_or xs (c.args.from + c.loop-k.k) read) c.as_slice-invariants.ensures) ∙ ap (λ (y : Listed). Some y) c.index-invariants-from.is in
    let filled : AreInColumn m.partitions x.labels labels c.loop-k.k =
    subst₂ (λ (xs : List Partition) (ns : List ℕ). AreInColumn xs ns labels c.loop-k.k) c.as_slice-partitions.ensures (ap (λ (ds : List ℕ). map number_of ds) c.as_digits.ensures.digits ∙ numbers_back x.labels) c.fill_column.ensures.column in
    labels-more m c.loop-k.columns.labels.items labels c.args.from c.loop-k.k x low there c.fill_column.ensures.others filled c.loop-k.invariant

pub returns : goal.returns
returns c =
    let m = c.args.model.now in
    let same : length c.as_slice-invariants.result.now ≡ length m.invariants = ap length c.as_slice-invariants.ensures in
    let few : (TOGETHER ≤ c.loop-k.k) ⊎ (length m.invariants - c.args.from ≤ c.loop-k.k) =
    elim (cases_lt c.loop-k.k TOGETHER) [
      | inl n ↦ inr (omega (arith, n, same, c.loop-k-test.false, c.min-k-end.ensures, c.loop-k.auto.k-end))
      | inr all ↦ inl all
    ] in
    labels-end m c.loop-k.columns.labels.items c.args.from c.loop-k.k few c.loop-k.invariant
