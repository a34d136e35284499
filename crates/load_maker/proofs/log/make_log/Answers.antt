use Rattle.load_maker.proofs.InOrder.{begins, goes-on}
use Rattle.load_maker.proofs.log.make_log.Goals as goal

pub loop-k-init : goal.loop-k-init
loop-k-init c = begins c.in_ok-text.text.items c.new-generator.result.state c.in_ok-text.ensures.items c.new-generator.ensures

pub loop-k-preserved : goal.loop-k-preserved
loop-k-preserved c =
    goes-on c.loop-k.k c.loop-k.generator.state c.push_session.new.generator.state c.loop-k.text.items c.push_session.new.text.items
    c.loop-k.invariant.text c.loop-k.invariant.state c.in_ok-push_session.ensures.lines c.in_ok-push_session.ensures.state
