use Rattle.std.proofs.Common.{◌≡◌, ◌*◌, ◌+◌, ◌-◌, ◌++◌, ℕ, Bool, List, length, length-append, take, drop, sym, ◌∙◌, ap, subst, subst₂, arith}
use Rattle.invariants.specs.declared.Invariant.{Invariant}
use Rattle.partition_model.specs.Assignments.{G}
use Rattle.labelling.specs.Labelled.{SaysSatisfied}
use Rattle.infer_core.specs.declared.portions.TheConstants.{PORTION}
use Rattle.infer_core.proofs.Slicing.{portion-next, portion-within, portions-all, told-append}
use Rattle.infer_core.proofs.portions.satisfied_by_portions.Goals as goal

pub loop-portion-preserved : goal.loop-portion-preserved
loop-portion-preserved c =
    let invs : List Invariant = c.args.invs.now in
    let g = G c.args.graph.now.traces in
    let portion : ℕ = c.loop-portion.portion in
    let front : List Invariant = take (portion * PORTION) invs in
    let next : List Invariant = take (c.min-to.result - portion * PORTION) (drop (portion * PORTION) invs) in
    let flags : List Bool = c.loop-portion.flags.items in
    let more : List Bool = c.in_ok-told.told.items in
    let longer : c.extend_from_slice.new.self.items ≡ flags ++ more = c.in_ok-extend_from_slice.ensures.items ∙ ap (λ (fs : List Bool). flags ++ fs) c.as_slice.ensures.value in
    let whole : front ++ next ≡ take ((portion + 1) * PORTION) invs =
    portion-next invs portion c.min-to.result (portion-within invs portion (omega (arith, c.loop-portion-test.true, c.div_ceil-portion-end.ensures))) (omega (arith, c.min-to.ensures)) in
    let count : length flags ≡ length front = c.loop-portion.invariant.count in
    let count-more : length more ≡ length next = c.in_ok-told.ensures.count in
    let both : length (flags ++ more) ≡ length (front ++ next) = omega (arith, length-append flags more, length-append front next, count, count-more) in
    record {
      count = ap (λ (fs : List Bool). length fs) longer ∙ both ∙ ap (λ (xs : List Invariant). length xs) whole;
      told = subst₂ (λ (xs : List Invariant) (fs : List Bool). SaysSatisfied g xs fs) whole (sym longer) (told-append g front next flags more count c.loop-portion.invariant.told c.in_ok-told.ensures.told);
    }

pub returns-clause-count : goal.returns-clause-count
returns-clause-count c =
    c.loop-portion.invariant.count ∙ ap (λ (xs : List Invariant). length xs) (portions-all c.args.invs.now c.loop-portion.portion (omega (arith, c.loop-portion-test.false, c.div_ceil-portion-end.ensures)))

pub returns-clause-told : goal.returns-clause-told
returns-clause-told c =
    subst (λ (xs : List Invariant). SaysSatisfied (G c.args.graph.now.traces) xs c.loop-portion.flags.items)
    (portions-all c.args.invs.now c.loop-portion.portion (omega (arith, c.loop-portion-test.false, c.div_ceil-portion-end.ensures))) c.loop-portion.invariant.told
