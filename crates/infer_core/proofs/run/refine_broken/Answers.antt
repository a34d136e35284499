use Rattle.std.proofs.Common.{length, arith}
use Rattle.std.proofs.lemmas.Result.{on_ok_weaker}
use Rattle.splitter.proofs.Asking.{asked-few}
use Rattle.infer_core.proofs.run.refine_broken.Goals as goal

pub refine_skipping-requires-clause-known : goal.refine_skipping-requires-clause-known
refine_skipping-requires-clause-known g c = λ k inv at yes. (c.requires.told k inv at).0 yes

pub returns-clause-more : goal.returns-clause-more
returns-clause-more g c = on_ok_weaker c.refine_skipping.result (λ e. omega (arith, e)) c.refine_skipping.ensures.counted

pub returns-clause-few : goal.returns-clause-few
returns-clause-few g c = on_ok_weaker c.refine_skipping.result (λ e. omega (arith, e, asked-few c.args.flags.now (length c.args.invs.now))) c.refine_skipping.ensures.counted
