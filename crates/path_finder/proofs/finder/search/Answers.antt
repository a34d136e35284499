use Rattle.std.proofs.Common.{◌∙◌, ℕ, ap, refl, arith}
use Rattle.path_finder.specs.Asking.{asked}
use Rattle.path_finder.specs.Walks.{state_at}
use Rattle.path_finder.proofs.Least.{satisfied_from}
use Rattle.path_finder.proofs.finder.search.Goals as goal

pub measure-requires : goal.measure-requires
measure-requires g c = record { id = omega (arith, c.args.question.now.two); state = c.state_at.ensures.bound }

pub trace-requires-clause-pair : goal.trace-requires-clause-pair
trace-requires-clause-pair g c = record { id = omega (arith, c.args.question.now.two); state = c.state_at.ensures.bound }

pub trace-requires-clause-state : goal.trace-requires-clause-state
trace-requires-clause-state g c = c.state_at.ensures.value ∙ ap (λ (s : ℕ). state_at (asked c.args.question.now) s 0) c.start.ensures

pub returns-in_default-clause-satisfied : goal.returns-in_default-clause-satisfied
returns-in_default-clause-satisfied g c z =
    satisfied_from (asked c.args.question.now) (record { id = 0; state = c.state_at.result }) c.measure.new.table (record { id = omega (arith, c.args.question.now.two); state = c.state_at.ensures.bound }) refl
    (c.state_at.ensures.value ∙ ap (λ (s : ℕ). state_at (asked c.args.question.now) s 0) c.start.ensures) c.in_default.ensures.measured c.in_default.ensures.distance
