use Rattle.std.proofs.Common.{sym, ◌∙◌, subst, arith, get_or, set, inl, inr}
use Rattle.std.proofs.lemmas.Bool.{cases_eq}
use Rattle.std.proofs.lemmas.List.{get_or-set_same, get_or-set_other, length-set}
use Rattle.model_check.specs.States.{IsSource}
use Rattle.model_check.proofs.states.source_of_each.Goals as goal

pub loop-set-preserved : goal.loop-set-preserved
loop-set-preserved c =
    let old = c.loop-set.sources in
    let at = c.loop-set.set in
    let new = c.source.result in
    let told : IsSource c.args.inv c.args.typ at new = subst (λ n. IsSource c.args.inv c.args.typ n new) c.of.ensures c.source.ensures in
    record {
      count = length-set old at new ∙ c.loop-set.invariant.count;
      each = λ k within. elim (cases_eq k at) [
        | inl same ↦ subst (λ n. IsSource c.args.inv c.args.typ n (get_or (set old at new) n 0)) (sym same)
            (subst (λ x. IsSource c.args.inv c.args.typ at x) (sym (get_or-set_same old at new 0 (omega (arith, c.loop-set.invariant.count)))) told)
        | inr other ↦ subst (λ x. IsSource c.args.inv c.args.typ k x) (sym (get_or-set_other old at k new 0 other)) (c.loop-set.invariant.each k (omega (arith, other)))
      ];
    }
