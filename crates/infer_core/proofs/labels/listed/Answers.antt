use Rattle.std.proofs.Common.{◌*◌, ◌-◌, ◌++◌, List, map, take, drop, sym, ap, subst, ◌∙◌, arith}
use Rattle.std.specs.List.{AllByRecursion}
use Rattle.invariants.specs.declared.Invariant.{Invariant}
use Rattle.invariants.specs.declared.records.Listed.{Listed}
use Rattle.models.specs.Models.{AreReached}
use Rattle.infer_core.specs.declared.portions.TheConstants.{PORTION}
use Rattle.infer_core.proofs.Slicing.{portion-next, portion-within, portions-all}
use Rattle.infer_core.proofs.labels.listed.Goals as goal

pub loop-portion-init : goal.loop-portion-init
loop-portion-init c =
    record {
      listing = ap (λ (ls : List Listed). map (λ (x : Listed). x.inv) ls) c.in_ok-list.ensures.items;
      labels = λ h a g. subst (λ (ls : List Listed). AllByRecursion (λ x. AreReached x.inv h c.args.partitions.now x.labels) ls) (sym c.in_ok-list.ensures.items) tt;
    }

pub loop-portion-preserved : goal.loop-portion-preserved
loop-portion-preserved c =
    let invs : List Invariant = c.args.invs.now in
    record {
      listing = c.in_ok-add_portion.ensures.listing ∙ ap (λ (xs : List Invariant). xs ++ take (c.min-to.result - c.loop-portion.portion * PORTION) (drop (c.loop-portion.portion * PORTION) invs)) c.loop-portion.invariant.listing
          ∙ portion-next invs c.loop-portion.portion c.min-to.result (portion-within invs c.loop-portion.portion (omega (arith, c.loop-portion-test.true, c.div_ceil-portion-end.ensures))) (omega (arith, c.min-to.ensures));
      labels = λ h a g. c.in_ok-add_portion.ensures.labels h a g (c.loop-portion.invariant.labels h a g);
    }

pub returns : goal.returns
returns c =
    record {
      listing = ap (λ (ls : List Listed). map (λ (x : Listed). x.inv) ls) c.from_vec.ensures ∙ c.loop-portion.invariant.listing
          ∙ portions-all c.args.invs.now c.loop-portion.portion (omega (arith, c.loop-portion-test.false, c.div_ceil-portion-end.ensures));
      labels = λ h a g. subst (λ (ls : List Listed). AllByRecursion (λ x. AreReached x.inv h c.args.partitions.now x.labels) ls) (sym c.from_vec.ensures) (c.loop-portion.invariant.labels h a g);
    }
