use Rattle.std.proofs.Common.{subst}
use Rattle.traces.specs.Words.{Log}
use Rattle.invariants.specs.declared.Kinds.{Kinds}
use Rattle.models.specs.Laws.{IsTypedLog}
use Rattle.models.specs.Limits.{IsWithinLimits}
use Rattle.models.specs.Models.{typed_words}
use Rattle.tests_callers.proofs.recheck.Goals as goal

pub write_model-written-requires : goal.write_model-written-requires
write_model-written-requires c =
    let kinds : Kinds = c.args.workbench.now.kinds in
    c.models_are_shaped.ensures c.in_ok-model.model (typed_words kinds c.args.workbench.now.log)
    (subst (λ (log : Log). IsTypedLog (typed_words kinds log)) c.traces.ensures (c.log_is_typed.ensures.typed kinds))
    (subst (λ (log : Log). IsWithinLimits (typed_words kinds log)) c.traces.ensures (c.log_is_typed.ensures.within kinds)) c.in_ok-model.ensures.within c.in_ok-model.ensures.value
