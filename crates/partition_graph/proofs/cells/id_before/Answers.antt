use Rattle.std.proofs.Common.{◌≡◌, ◌+◌, ◌-◌, false, ℕ, arith, ap, sym, ◌∙◌}
use Rattle.limits.specs.declared.TheConstants.{INITIAL}
use Rattle.partition_graph.specs.Counts.{id_before}
use Rattle.partition_graph.proofs.Around.{before-next}
use Rattle.partition_graph.proofs.cells.id_before.Goals as goal

pub returns : goal.returns
returns c =
    let back : (c.args.i - 1) + 1 ≡ c.args.i = omega (arith, c.if-i-eq0.false) in
    c.before_next.ensures
    ∙ sym (before-next INITIAL c.args.cells.now (c.args.i - 1) (record { typ = 0; last = false; id = 0 }) (omega (arith, c.requires, c.if-i-eq0.false)))
    ∙ ap (λ (n : ℕ). id_before INITIAL c.args.cells.now n) back
