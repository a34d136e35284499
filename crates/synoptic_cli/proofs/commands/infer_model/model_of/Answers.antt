use Rattle.std.proofs.Common.{subst}
use Rattle.traces.specs.Words.{Log}
use Rattle.models.specs.Laws.{IsTypedLog}
use Rattle.models.specs.Limits.{IsWithinLimits}
use Rattle.models.specs.Models.{typed_words}
use Rattle.synoptic_cli.proofs.Inferred.{model-if-made}
use Rattle.synoptic_cli.proofs.commands.infer_model.model_of.Goals as goal

pub returns : goal.returns
returns c =
    let kinds = c.args.workbench.now.kinds in
    model-if-made (typed_words kinds c.args.workbench.now.log) c.model.result c.models_are_shaped.ensures c.models_tell.ensures c.models_pass.ensures
    (subst (λ (log : Log). IsTypedLog (typed_words kinds log)) c.traces.ensures (c.log_is_typed.ensures.typed kinds))
    (subst (λ (log : Log). IsWithinLimits (typed_words kinds log)) c.traces.ensures (c.log_is_typed.ensures.within kinds)) c.model.ensures.value c.model.ensures.within
