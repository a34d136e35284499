use Rattle.infer_core.proofs.alike.partner.Given as goal

abbrev pub invariant-loop-number : goal.invariant-loop-number
invariant-loop-number l = Unit {0}
