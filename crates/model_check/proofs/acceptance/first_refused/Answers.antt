use Rattle.std.proofs.Common.{◌≡◌, Some, slice_get, true≢false, sym, ◌∙◌, ap, subst, arith}
use Rattle.std.proofs.lemmas.List.{length-map}
use Rattle.limits.specs.declared.TheConstants.{INITIAL}
use Rattle.partition_model.specs.Graphs.{Graph}
use Rattle.traces.specs.Words.{Trace}
use Rattle.model_check.specs.Rows.{shown}
use Rattle.model_check.specs.Verdicts.{inner_words_of, HasPathFor}
use Rattle.model_check.proofs.Failing.{fails_first, holds_more, holds_all}
use Rattle.model_check.proofs.Reading.{word-at}
use Rattle.model_check.proofs.acceptance.first_refused.Goals as goal
use Rattle.model_check.proofs.acceptance.first_refused.Goals.{After-accepts}

-- the word in hand
there : (c : After-accepts) → slice_get (inner_words_of c.args.traces.now) c.loop-t.t ≡ Some c.events.result.now
there c = word-at c.args.traces.now.traces c.loop-t.t c.events.result.now (omega (arith, c.loop-t-test.true, c.trace_count-t-end.ensures)) c.events.ensures.events

pub accepts-requires-clause-start : goal.accepts-requires-clause-start
accepts-requires-clause-start c = ap (λ (g : Graph). g.typ INITIAL) c.loop-t.invariant.stays ∙ c.requires

pub returns-then-not-accepts-clause-first : goal.returns-then-not-accepts-clause-first
returns-then-not-accepts-clause-first c =
    let d : After-accepts = (goal.at.returns-then-not-accepts-clause-first c).After-accepts in
    fails_first (HasPathFor (shown c.args.graph.now)) (inner_words_of c.args.traces.now) c.loop-t.t c.events.result.now (there d)
    (λ h. true≢false (sym (c.accepts.ensures.accepts.1 (subst (λ (g : Graph). HasPathFor g c.events.result.now) (sym c.loop-t.invariant.stays) h)) ∙ c.if-not-accepts.true)) c.loop-t.invariant.held

pub loop-t-preserved : goal.loop-t-preserved
loop-t-preserved c =
    let d : After-accepts = (goal.at.loop-t-preserved c).After-accepts in
    record {
      stays = c.accepts.ensures.stays ∙ c.loop-t.invariant.stays;
      held =
          holds_more (HasPathFor (shown c.args.graph.now)) (inner_words_of c.args.traces.now) c.loop-t.t c.events.result.now (there d)
          (subst (λ (g : Graph). HasPathFor g c.events.result.now) c.loop-t.invariant.stays (c.accepts.ensures.accepts.0 c.if-not-accepts.false)) c.loop-t.invariant.held;
    }

pub returns-clause-first : goal.returns-clause-first
returns-clause-first c =
    holds_all (HasPathFor (shown c.args.graph.now)) (inner_words_of c.args.traces.now) c.loop-t.t
    (omega (arith, c.loop-t-test.false, c.trace_count-t-end.ensures, length-map c.args.traces.now.traces (λ (trace : Trace). trace.events))) c.loop-t.invariant.held
