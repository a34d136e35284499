use Rattle.std.proofs.Common.{◌≡◌, ◌∙◌, ap, subst}
use Rattle.std.specs.Prelude.{IfOk}
use Rattle.std.proofs.lemmas.Result.{IfOk-weaker}
use Rattle.clap.specs.Words.{app_of, rule_of, with_rule}
use Rattle.command_line.proofs.command.add.Goals as goal

pub returns-in-Ok : goal.returns-in-Ok
returns-in-Ok c = λ before is.
    let same = subst (λ r. IfOk r (λ k. app_of k ≡ before)) c.in-Ok.is is in
    IfOk-weaker c.arg.result _ _ (λ m h. h.shape c.requires ∙ ap (λ a. with_rule a (rule_of c.args.arg)) same) c.arg.ensures
