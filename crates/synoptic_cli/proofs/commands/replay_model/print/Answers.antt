use Rattle.std.proofs.lemmas.Result.{IfOk-weaker}
use Rattle.synoptic_cli.proofs.Replayed.{outcome-told}
use Rattle.synoptic_cli.proofs.commands.replay_model.print.Goals as goal

pub returns-clause-value : goal.returns-clause-value
returns-clause-value c =
    IfOk-weaker c.answer_of.result _ _ (λ a told. outcome-told c.first_step_fails.ensures c.args.material.now c.in_ok-outcome.outcome a c.in_ok-outcome.ensures told) c.answer_of.ensures.value
