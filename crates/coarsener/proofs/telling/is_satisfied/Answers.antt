use Rattle.std.proofs.Common.{ℕ, Option, subst}
use Rattle.std.proofs.lemmas.Bool.{ltb-true}
use Rattle.partition_model.specs.Refinement.{SatisfiesAll, IsFirstBroken}
use Rattle.coarsener.specs.Deciding.{IsFirstBad}
use Rattle.partition_model.proofs.Satisfied.{all_at}
use Rattle.coarsener.proofs.Deciding.{satisfied-before}
use Rattle.coarsener.proofs.telling.is_satisfied.Goals as goal

pub returns-in_default : goal.returns-in_default
returns-in_default c g invs inv f e t =
    let all : SatisfiesAll g invs = subst (λ (b : Option ℕ). IsFirstBad g invs b) c.in_default.is f in
    all_at g invs c.args.k inv e all

pub returns : goal.returns
returns c g invs inv f e t =
    let broken : IsFirstBroken g invs c.in-Some.bad = subst (λ (b : Option ℕ). IsFirstBad g invs b) c.in-Some.is f in
    satisfied-before g invs c.in-Some.bad broken c.args.k inv (ltb-true c.args.k c.in-Some.bad t) e
