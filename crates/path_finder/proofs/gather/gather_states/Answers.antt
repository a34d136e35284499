use Rattle.std.proofs.Common.{inl, inr, arith}
use Rattle.std.proofs.lemmas.Bool.{cases_lt}
use Rattle.path_finder.proofs.gather.gather_states.Goals as goal

pub loop-state-init : goal.loop-state-init
loop-state-init c =
    record {
      marked = c.requires.marked;
      kept = λ p h. h;
      all = λ p pp below leads. absurd (omega (arith, below));
      others = λ p low h. inl h;
    }

pub loop-state-preserved : goal.loop-state-preserved
loop-state-preserved c =
    let i = c.loop-state.invariant in
    let g = c.gather_state.ensures.gathered in
    record {
      marked = c.gather_state.ensures.marked;
      kept = λ p h. g.kept p (i.kept p h);
      all = λ p pp below leads. elim (cases_lt p.state c.loop-state.state) [
        | inl before ↦ g.kept p (i.all p pp before leads)
        | inr here ↦ g.all p pp (omega (arith, below, here)) leads
      ];
      others = λ p low h. elim (g.others p low h) [ inl old ↦ i.others p low old | inr new ↦ inr new ];
    }

pub returns-clause-gathered : goal.returns-clause-gathered
returns-clause-gathered c =
    let i = c.loop-state.invariant in
    record {
      kept = i.kept;
      all = λ p pp low d. i.all p pp (omega (arith, low, c.loop-state-test.false)) d;
      others = i.others;
    }
