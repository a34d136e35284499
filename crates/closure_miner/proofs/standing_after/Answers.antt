use Rattle.std.proofs.Common.{List, map, take, take_all, arith, sym, ◌∙◌, subst}
use Rattle.traces.specs.Words.{Trace, word_of}
use Rattle.closure_miner.specs.Standing.{Stands}
use Rattle.closure_miner.proofs.Traces.{events-le, words-more}
use Rattle.closure_miner.proofs.standing_after.Goals as goal

pub read-requires-clause-few : goal.read-requires-clause-few
read-requires-clause-few g c =
    omega (arith, events-le c.args.traces.now.traces c.loop-t.t c.events.result.now (omega arith) c.events.ensures.events, c.event_count-event_count.ensures.value, c.event_count-event_count.ensures.few)

pub loop-t-preserved : goal.loop-t-preserved
loop-t-preserved g c = record {
  kinds = c.read.ensures.kinds ∙ c.loop-t.invariant.kinds;
  types = c.read.ensures.types ∙ c.loop-t.invariant.types;
  stands =
      subst (Stands g.S.TypeSet.has c.read.new.self) (sym (words-more c.args.traces.now.traces c.loop-t.t c.events.result.now (omega arith) c.events.ensures.events))
      (c.read.ensures.stands (map word_of (take c.loop-t.t c.args.traces.now.traces)) c.loop-t.invariant.stands);
}

pub returns-clause-stands : goal.returns-clause-stands
returns-clause-stands g c =
    subst (λ (ts : List Trace). Stands g.S.TypeSet.has c.loop-t.standing (map word_of ts)) (take_all c.loop-t.t c.args.traces.now.traces (omega (arith, c.loop-t-test.false, c.trace_count-t-end.ensures))) c.loop-t.invariant.stands
