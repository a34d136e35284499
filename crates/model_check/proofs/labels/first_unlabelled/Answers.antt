use Rattle.std.proofs.Common.{◌≡◌, ◌<◌, List, Some, slice_get, length, get_or, sym, ◌∙◌, ap, subst, arith, true≢false}
use Rattle.std.specs.List.{All}
use Rattle.std.proofs.lemmas.Option.{slice_get_read}
use Rattle.std.proofs.lemmas.List.Elements.{All-from_recursion}
use Rattle.invariants.specs.declared.records.Listed.{Listed}
use Rattle.model_shape.specs.Shapes.{IsShapedListed}
use Rattle.models.specs.Models.{IsLabelled}
use Rattle.model_check.proofs.Failing.{fails_first, holds_more, holds_all}
use Rattle.model_check.proofs.labels.first_unlabelled.Goals as goal
use Rattle.model_check.proofs.labels.first_unlabelled.Goals.{After-index-invariants-i}

within : (c : After-index-invariants-i) → c.loop-i.i < length c.args.model.now.invariants
within c = omega (arith, c.loop-i-test.true, ap length c.as_slice-invariants.ensures)

read : (c : After-index-invariants-i) → c.index-invariants-i.result ≡ get_or c.args.model.now.invariants c.loop-i.i c.index-invariants-i.result
read c = c.index-invariants-i.is ∙ ap (λ (xs : List Listed). get_or xs c.loop-i.i c.index-invariants-i.result) c.as_slice-invariants.ensures

there : (c : After-index-invariants-i) → slice_get c.args.model.now.invariants c.loop-i.i ≡ Some c.index-invariants-i.result
there c =
    slice_get_read c.args.model.now.invariants (length c.as_slice-invariants.result.now) c.loop-i.i c.index-invariants-i.result (ap length c.as_slice-invariants.ensures) (omega (arith, within c, ap length c.as_slice-invariants.ensures))
    (read c)

pub loop-i-init : goal.loop-i-init
loop-i-init c = c.count_labelled-count.ensures.labelled

pub is_labelled-requires-clause-listed : goal.is_labelled-requires-clause-listed
is_labelled-requires-clause-listed c =
    let a : After-index-invariants-i = (goal.at.is_labelled-requires-clause-listed c).After-index-invariants-i in
    let m = c.args.model.now in
    let all : All (IsShapedListed m.kinds (length m.types) (length m.partitions)) m.invariants = All-from_recursion (IsShapedListed m.kinds (length m.types) (length m.partitions)) m.invariants c.requires.shaped.invariants.each in
    subst (λ (l : Listed). IsShapedListed m.kinds (length m.types) (length m.partitions) l) (sym (read a)) (all c.loop-i.i c.index-invariants-i.result (within a))

pub returns-then-not-is_labelled : goal.returns-then-not-is_labelled
returns-then-not-is_labelled c =
    let a : After-index-invariants-i = (goal.at.returns-then-not-is_labelled c).After-index-invariants-i in
    fails_first (IsLabelled c.args.model.now) c.args.model.now.invariants c.loop-i.i c.index-invariants-i.result (there a)
    (λ i. true≢false (sym (c.is_labelled.ensures.1 i) ∙ c.if-not-is_labelled.true)) c.loop-i.invariant

pub loop-i-preserved : goal.loop-i-preserved
loop-i-preserved c =
    let a : After-index-invariants-i = (goal.at.loop-i-preserved c).After-index-invariants-i in
    holds_more (IsLabelled c.args.model.now) c.args.model.now.invariants c.loop-i.i c.index-invariants-i.result (there a) (c.is_labelled.ensures.0 c.if-not-is_labelled.false) c.loop-i.invariant

pub returns : goal.returns
returns c =
    holds_all (IsLabelled c.args.model.now) c.args.model.now.invariants c.loop-i.i
    (omega (arith, c.loop-i-test.false, ap length c.as_slice-invariants.ensures)) c.loop-i.invariant
