use Rattle.std.proofs.Common.{◌≡◌, ◌+◌, ◌≤◌, ◌-◌, ℕ, List, Some, slice_get, length, get_or, refl, sym, ◌∙◌, ap, subst, arith}
use Rattle.std.proofs.lemmas.Option.{slice_get_read}
use Rattle.invariants.specs.declared.records.Listed.{Listed}
use Rattle.model_check.specs.Columns.{AreInColumn, HaveLabels, IsColumnOf}
use Rattle.model_check.specs.declared.columns.TheConstants.{TOGETHER}
use Rattle.model_check.proofs.Together.{AreLaidUpTo, laid-none, laid-more, columns-end}
use Rattle.model_check.proofs.columns.lay_columns.Goals as goal

pub loop-k-init : goal.loop-k-init
loop-k-init c =
    let m = c.args.model.now in
    let filled : HaveLabels m c.begin_sources.new.self.labels.items c.args.from TOGETHER =
    subst (λ (ls : List ℕ). HaveLabels m ls c.args.from TOGETHER) (sym c.begin_sources.ensures.labels) c.fill_columns.ensures in
    laid-none m c.begin_sources.new.self.labels.items c.begin_sources.new.self.sources.items c.args.from filled (c.begin_sources.ensures.sources ∙ sym c.begin_sources.ensures.labels)

pub lay_column-requires : goal.lay_column-requires
lay_column-requires c = record {
  column = c.loop-k-test.true;
  begun = λ p. c.loop-k.invariant.begun c.loop-k.k p (omega arith) c.loop-k-test.true;
}

pub returns-then-k-invariants : goal.returns-then-k-invariants
returns-then-k-invariants c = λ t.
    let rest : length c.args.model.now.invariants - c.args.from ≤ c.loop-k.k = omega (arith, c.if-k-invariants.true, ap length c.as_slice-invariants.ensures) in
    columns-end c.args.model.now c.loop-k.columns.labels.items c.loop-k.columns.sources.items c.args.from c.loop-k.k rest c.loop-k.invariant.laid

pub loop-k-preserved : goal.loop-k-preserved
loop-k-preserved c =
    let m = c.args.model.now in
    let x : Listed = c.index-invariants-from.result in
    let before : List ℕ = c.loop-k.columns.labels.items in
    let labels : List ℕ = c.lay_column.new.columns.labels.items in
    let old : List ℕ = c.loop-k.columns.sources.items in
    let sources : List ℕ = c.lay_column.new.columns.sources.items in
    let there : slice_get m.invariants (c.args.from + c.loop-k.k) ≡ Some x =
    slice_get_read m.invariants (length c.as_slice-invariants.result.now) (c.args.from + c.loop-k.k) x (ap length c.as_slice-invariants.ensures) (omega (arith, c.if-k-invariants.false))
    (c.index-invariants-from.is ∙ ap (λ (xs : List Listed). get_or xs (c.args.from + c.loop-k.k) x) c.as_slice-invariants.ensures) in
    let here : AreInColumn m.partitions x.labels labels c.loop-k.k → IsColumnOf m x labels sources c.loop-k.k =
    λ a. c.if-not-lay_column.ensures.column m c.requires.shaped c.requires.graph (subst (λ (ls : List ℕ). AreInColumn m.partitions x.labels ls c.loop-k.k) c.lay_column.ensures.labels a) refl in
    let laid : AreLaidUpTo m labels old c.args.from c.loop-k.k = subst (λ (ls : List ℕ). AreLaidUpTo m ls old c.args.from c.loop-k.k) (sym c.lay_column.ensures.labels) c.loop-k.invariant in
    laid-more m labels old sources c.args.from c.loop-k.k x c.loop-k-test.true there c.lay_column.ensures.other_sources here laid

pub returns : goal.returns
returns c = λ t k l h e. c.loop-k.invariant.laid k l (omega (arith, h, c.loop-k-test.false)) e
