use Rattle.std.proofs.Common.{◌≢◌, ◌<◌, ◌≤◌, ℕ, MatchOption, subst₂, arith}
use Rattle.limits.specs.declared.TheConstants.{INITIAL, MAX_PARTITIONS}
use Rattle.model_check.specs.Rows.{Tables, shown, IsNextOfType}
use Rattle.model_check.specs.declared.sets.TheConstants.{TYPES}
use Rattle.model_check.proofs.Typed.{typed-next}
use Rattle.model_check.proofs.graph.ModelGraph.next_of_type.Goals as goal

pub returns : goal.returns
returns c =
    let low : INITIAL < c.from-row.result = omega (arith, c.if-row-eq0.false) in
    let high : c.from-row.result < TYPES = omega (arith, c.if-row-ge-TYPES.false) in
    subst₂ (λ (t : Tables) (typ : ℕ). MatchOption c.next.result ((q : ℕ) → c.args.from ≤ q → q < MAX_PARTITIONS → (shown t).typ q ≢ typ) (IsNextOfType (shown t).typ typ c.args.from)) c.self.view_is c.from-row.ensures
    (typed-next c.self.inside.types.items c.self.inside.rows c.from-row.result c.args.from c.next.result c.self.invariant.0 low high c.next.ensures)
