use Rattle.std.proofs.lemmas.Result.{IfOk-weaker}
use Rattle.synoptic_cli.proofs.Checked.{verdict-told}
use Rattle.synoptic_cli.proofs.commands.check_model.print.Goals as goal

pub returns-clause-value : goal.returns-clause-value
returns-clause-value c =
    IfOk-weaker c.answer_of.result _ _ (λ a told. verdict-told c.valid_tells.ensures c.first_part_fails.ensures c.args.material.now c.in_ok-verdict.verdict a c.in_ok-verdict.ensures told) c.answer_of.ensures.value
