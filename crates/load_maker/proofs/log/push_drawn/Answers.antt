use Rattle.std.proofs.Common.{append-nil, sym, ap, ◌∙◌}
use Rattle.load_maker.specs.Sessions.{is_write}
use Rattle.load_maker.proofs.Drawn.{calls-none, state-none, calls-last, state-last, calls-next, state-next, lines-step, or-step, or-none}
use Rattle.load_maker.proofs.log.push_drawn.Goals as goal

pub returns-then-draw-eq-NO_CALL-clause-lines : goal.returns-then-draw-eq-NO_CALL-clause-lines
returns-then-draw-eq-NO_CALL-clause-lines c =
    let none = calls-last c.loop.counter c.loop.generator.state c.draw-draw.new.self.state c.draw-draw.result c.loop-test.true c.draw-draw.ensures.state c.draw-draw.ensures.drawn c.if-draw-eq-NO_CALL.true in
    let h = rw none at c.loop.invariant.lines in
    sym (append-nil c.loop.text.items) ∙ h

pub returns-then-draw-eq-NO_CALL-clause-state : goal.returns-then-draw-eq-NO_CALL-clause-state
returns-then-draw-eq-NO_CALL-clause-state c =
    let none = state-last c.loop.counter c.loop.generator.state c.draw-draw.new.self.state c.draw-draw.result c.loop-test.true c.draw-draw.ensures.state c.draw-draw.ensures.drawn c.if-draw-eq-NO_CALL.true in
    sym none ∙ c.loop.invariant.state

pub returns-then-draw-eq-NO_CALL-clause-wrote : goal.returns-then-draw-eq-NO_CALL-clause-wrote
returns-then-draw-eq-NO_CALL-clause-wrote c =
    let none = calls-last c.loop.counter c.loop.generator.state c.draw-draw.new.self.state c.draw-draw.result c.loop-test.true c.draw-draw.ensures.state c.draw-draw.ensures.drawn c.if-draw-eq-NO_CALL.true in
    let h = rw none at c.loop.invariant.wrote in
    or-none c.loop.wrote _ h

pub loop-preserved : goal.loop-preserved
loop-preserved c =
    let calls = calls-next c.loop.counter c.loop.generator.state c.draw-draw.new.self.state c.draw-draw.result c.loop-test.true c.draw-draw.ensures.state c.draw-draw.ensures.drawn c.if-draw-eq-NO_CALL.false in
    let state = state-next c.loop.counter c.loop.generator.state c.draw-draw.new.self.state c.draw-draw.result c.loop-test.true c.draw-draw.ensures.state c.draw-draw.ensures.drawn c.if-draw-eq-NO_CALL.false in
    let lines = rw calls at c.loop.invariant.lines in
    let wrote = rw calls at c.loop.invariant.wrote in
    record {
      lines = lines-step c.args.session c.of_draw-call.result _ c.loop.text.items _ _ _ c.of_draw-call.ensures c.in_ok-push_line.ensures lines;
      state = sym state ∙ c.loop.invariant.state;
      wrote = or-step c.loop.wrote c.is_write-wrote.result _ _ _ (c.is_write-wrote.ensures ∙ ap is_write c.of_draw-call.ensures) wrote;
    }

pub returns-clause-lines : goal.returns-clause-lines
returns-clause-lines c =
    let h = rw (calls-none c.loop.counter c.loop.generator.state c.loop-test.false) at c.loop.invariant.lines in
    sym (append-nil c.loop.text.items) ∙ h

pub returns-clause-state : goal.returns-clause-state
returns-clause-state c = sym (state-none c.loop.counter c.loop.generator.state c.loop-test.false) ∙ c.loop.invariant.state

pub returns-clause-wrote : goal.returns-clause-wrote
returns-clause-wrote c =
    let h = rw (calls-none c.loop.counter c.loop.generator.state c.loop-test.false) at c.loop.invariant.wrote in
    or-none c.loop.wrote _ h
