use Rattle.std.proofs.Common.{ℕ, sym, ◌∙◌, refl, ap}
use Rattle.invariants.specs.Monitors.{step}
use Rattle.path_finder.proofs.gather.gather_pair.Goals as goal

pub gather_sources-requires-clause-step : goal.gather_sources-requires-clause-step
gather_sources-requires-clause-step c =
    ap (λ (t : ℕ). step c.args.question.now.inv c.args.pair.state t) (sym c.type_of-typ.ensures)
    ∙ c.if-passes_over.ensures refl c.args.pair.state

pub returns-then-passes_over-clause-gathered : goal.returns-then-passes_over-clause-gathered
returns-then-passes_over-clause-gathered c =
    let g = c.gather_sources.ensures.gathered in
    record {
      kept = g.kept;
      all = λ p pp low d.
          g.all p pp
          (sym (ap (λ (t : ℕ). step c.args.question.now.inv p.state t) (sym c.type_of-typ.ensures) ∙ c.if-passes_over.ensures refl p.state) ∙ d.step) d;
      others = g.others;
    }
