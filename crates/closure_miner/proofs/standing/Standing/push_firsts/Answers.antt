use Rattle.std.proofs.Common.{◌∙◌, arith}
use Rattle.invariants.specs.Mined.{holds_of_all}
use Rattle.closure_miner.proofs.Lists.{first-added}
use Rattle.closure_miner.proofs.standing.Standing.push_firsts.Goals as goal

pub loop-b-preserved : goal.loop-b-preserved
loop-b-preserved g c = λ words st.
    first-added (holds_of_all words) c.loop-b.b c.number_of.result c.has_place-stands.result c.args.list.now.items c.loop-b.list.items c.push_standing.new.list.items c.number_of.ensures
    (c.has_place-stands.ensures ∙ st.everywhere c.loop-b.b (omega arith)) (c.loop-b.invariant words st) c.in_ok-push_standing.ensures
