use Rattle.std.proofs.Common.{length, arith}
use Rattle.std.proofs.lemmas.Result.{on_ok_weaker}
use Rattle.splitter.proofs.Asking.{asked-all}
use Rattle.splitter.proofs.refining.refine.Goals as goal

pub returns-clause-counted : goal.returns-clause-counted
returns-clause-counted g c = on_ok_weaker c.refine_skipping.result (λ e. omega (arith, e, asked-all (length c.args.invs.now))) c.refine_skipping.ensures.counted
