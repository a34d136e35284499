use Rattle.std.proofs.Common.{arith}
use Rattle.infer_core.proofs.Ending.{IsRun, coarsened-keeps, coarsened-loses, coarsened-counts, blocked-passes, ended}
use Rattle.infer_core.proofs.run.run.Goals as goal

pub blocks_marked-requires-clause-satisfied : goal.blocks_marked-requires-clause-satisfied
blocks_marked-requires-clause-satisfied g c =
    coarsened-keeps _ _ _ _ _ _ _ _ c.in-Ok.ensures.ended

pub blocks_marked-requires-clause-ended : goal.blocks_marked-requires-clause-ended
blocks_marked-requires-clause-ended g c =
    coarsened-loses _ _ _ _ _ _ _ _ c.in-Ok.ensures.ended

pub returns-in_default-blocks_marked-clause-gives : goal.returns-in_default-blocks_marked-clause-gives
returns-in_default-blocks_marked-clause-gives g c words b =
    let r : IsRun c.args.invs.now c.args.graph.now c.refine_and_coarsen.new.graph c.refine_and_coarsen.new.tools.planes c.refine_and_coarsen.new.tools.run_log c.blocks_marked.new.run_log c.refine_and_coarsen.new.tools.spans c.blocks_marked.new.spans _ _ =
    record { coarsened = c.in-Ok.ensures.ended; blocked = c.in_default-blocks_marked.ensures.others; paths = c.in_default-blocks_marked.ensures.paths; stays = c.in_default-blocks_marked.ensures.stays } in
    blocked-passes words _ _ _ _ _ _ _ _ _ _ b r c.in_default-blocks_marked.ensures.err

pub returns-clause-gives : goal.returns-clause-gives
returns-clause-gives g c words b =
    let r : IsRun c.args.invs.now c.args.graph.now c.refine_and_coarsen.new.graph c.refine_and_coarsen.new.tools.planes c.refine_and_coarsen.new.tools.run_log c.blocks_marked.new.run_log c.refine_and_coarsen.new.tools.spans c.blocks_marked.new.spans _ _ =
    record { coarsened = c.in-Ok.ensures.ended; blocked = c.in-Ok-blocks_marked.ensures.others; paths = c.in-Ok-blocks_marked.ensures.paths; stays = c.in-Ok-blocks_marked.ensures.stays } in
    ended words _ _ _ _ _ _ _ _ _ _ b r c.in-Ok-blocks_marked.ensures.ok c.in-Ok-blocks_marked.ensures.within
    (c.in-Ok-blocks_marked.ensures.holds c.in-Ok.ensures.ended.paths)

pub returns-clause-counted : goal.returns-clause-counted
returns-clause-counted g c words b =
    coarsened-counts words _ _ _ _ _ _ _ _ b c.in-Ok.ensures.ended c.blocks_marked.new.steps
    (omega (arith, c.in-Ok-blocks_marked.ensures.more)) (omega (arith, c.in-Ok-blocks_marked.ensures.few))
