use Rattle.std.proofs.Common.{ℕ, sym, ◌∙◌, refl, ap}
use Rattle.invariants.specs.Monitors.{step}
use Rattle.path_finder.proofs.question.Question.state_at.Goals as goal

pub returns-then-passes_over-clause-value : goal.returns-then-passes_over-clause-value
returns-then-passes_over-clause-value c =
    sym (ap (λ (t : ℕ). step c.args.self.now.inv c.args.state t) (sym c.type_of-typ.ensures) ∙ c.if-passes_over.ensures refl c.args.state)
