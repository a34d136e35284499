use Rattle.std.proofs.Common.{◌≤◌, ◌<◌, ℕ, List, length, All, subst, arith}
use Rattle.std.specs.Str.{bytes_eq}
use Rattle.limits.specs.declared.TheConstants.{MAX_TYPES, MAX_TYPE_BYTES}
use Rattle.traces.specs.Words.{AreApart}
use Rattle.infer_core.proofs.Typed.{log-typed, log-within}
use Rattle.infer_core.proofs.law.log_is_typed.Goals as goal

pub returns-clause-typed : goal.returns-clause-typed
returns-clause-typed c kinds = log-typed kinds c.args.traces.now c.set_is_typed.ensures

pub returns-clause-within : goal.returns-clause-within
returns-clause-within c kinds =
    let e = c.types.ensures.value in
    log-within kinds c.args.traces.now
    (subst (λ (ts : List (List ℕ)). length ts ≤ MAX_TYPES) e c.types.ensures.few)
    (subst (λ (ts : List (List ℕ)). All (λ text. 0 < length text) ts) e c.types.ensures.some)
    (subst (λ (ts : List (List ℕ)). All (λ text. length text ≤ MAX_TYPE_BYTES) ts) e c.types.ensures.short)
    (subst (λ (ts : List (List ℕ)). AreApart bytes_eq ts) e c.types.ensures.distinct)
    (omega (arith, c.trace_count.ensures.value, c.trace_count.ensures.few))
    (omega (arith, c.event_count.ensures.value, c.event_count.ensures.few))
