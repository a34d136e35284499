use Rattle.closure_miner.proofs.Traces.{stands-first}
use Rattle.std.proofs.Common.{◌≡◌, ◌∙◌, ℕ, ap, arith, length, refl}
use Rattle.std.proofs.lemmas.List.{length-replicate}
use Rattle.invariants.specs.declared.Kinds.TheVariants.{Four}
use Rattle.closure_miner.proofs.standing.Standing.make.Goals as goal

pub returns-clause-stands : goal.returns-clause-stands
returns-clause-stands g c =
    stands-first g.S.TypeSet.has _ c.first-all.result c.none.result c.first-all.ensures c.none.ensures c.in_ok-sets_of.ensures c.in_ok-sets_of-2.ensures c.in_ok-sets_of-3.ensures refl
    (λ (four : c.args.kinds ≡ Four) a b in_a in_b. c.in_ok-make.ensures.all a b (omega (arith, in_a, c.types_between.ensures four)) (omega (arith, in_b, c.types_between.ensures four)))

pub invariant_of-result : goal.invariant_of-result
invariant_of-result g c =
    let types : ℕ = c.args.types in
    record {
      few = c.requires.few;
      followed_each = ap (λ sets. length sets) c.in_ok-sets_of.ensures ∙ length-replicate types c.first-all.result;
      met_each = ap (λ sets. length sets) c.in_ok-sets_of-2.ensures ∙ length-replicate types c.none.result;
      preceded_each = ap (λ sets. length sets) c.in_ok-sets_of-3.ensures ∙ length-replicate types c.first-all.result;
      between_each = λ (four : c.args.kinds ≡ Four). c.in_ok-make.ensures.types ∙ c.types_between.ensures four;
    }
