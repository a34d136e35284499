use Rattle.std.proofs.Common.{◌∙◌, List, length, ap, sym, arith}
use Rattle.invariants.specs.declared.Invariant.{Invariant}
use Rattle.std.proofs.lemmas.Option.{slice_get-get_or}
use Rattle.limits.specs.declared.TheConstants.{TERMINAL}
use Rattle.invariants.specs.Monitors.{bad_of}
use Rattle.labelling.proofs.Finding.{bad_low}
use Rattle.labelling.proofs.planes.Planes.make.Goals as goal

pub invariant_of-result : goal.invariant_of-result
invariant_of-result c = (
  λ k inv at. c.in_ok-phase_rows.ensures.unbroken k ∙ sym (c.in_ok-phase_rows.ensures.nothing.has k TERMINAL (bad_of inv.kind) (omega arith) (bad_low inv.kind)),
  c.in_ok-clashes.ensures ∙ sym c.in_ok-phase_rows.ensures.list,
  omega (arith, c.requires.few, ap (λ (invs : List Invariant). length invs) c.in_ok-phase_rows.ensures.list),
)

pub make-requires-3-clause-named : goal.make-requires-3-clause-named
make-requires-3-clause-named c = λ k d inside. c.requires.named k _ (slice_get-get_or c.args.invs.now k d inside)
