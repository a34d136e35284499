use Rattle.std.proofs.Common.{◌∙◌, arith}
use Rattle.run_history.specs.Records.{splits_of}
use Rattle.infer_core.proofs.Ending.{refined-keeps, merges-none, merge-room, coarsened-is, stopped-passes}
use Rattle.infer_core.proofs.run.refine_and_coarsen.Goals as goal

pub returns-in_default-clause-passed : goal.returns-in_default-clause-passed
returns-in_default-clause-passed g c words b =
    stopped-passes words c.args.invs.now c.args.graph.now c.refine_broken-refined.new.graph (splits_of c.refine_broken-refined.new.tools.run_log c.refine_broken-refined.new.tools.spans) _ b c.in_default.ensures.full c.in_default.ensures.stands

pub coarsen-requires-clause-satisfied : goal.coarsen-requires-clause-satisfied
coarsen-requires-clause-satisfied g c =
    refined-keeps c.args.invs.now c.refine_broken-refined.new.tools.planes.invs c.args.graph.now c.refine_broken-refined.new.graph (splits_of c.refine_broken-refined.new.tools.run_log c.refine_broken-refined.new.tools.spans) (c.refine_broken-refined.ensures.list ∙ c.requires.ready.listed) c.in-Ok.ensures.ok

pub coarsen-requires-clause-begun : goal.coarsen-requires-clause-begun
coarsen-requires-clause-begun g c = merges-none c.args.tools.now.run_log c.refine_broken-refined.new.tools.run_log c.args.tools.now.spans c.refine_broken-refined.new.tools.spans c.requires.ready.empty c.in-Ok.ensures.writes

pub coarsen-requires-clause-room : goal.coarsen-requires-clause-room
coarsen-requires-clause-room g c = omega (arith, merge-room c.args.tools.now.run_log c.refine_broken-refined.new.tools.run_log c.args.tools.now.spans c.refine_broken-refined.new.tools.spans c.in-Ok.ensures.writes, c.requires.ready.merges)

pub returns-clause-ended : goal.returns-clause-ended
returns-clause-ended g c =
    coarsened-is c.args.invs.now c.args.graph.now c.refine_broken-refined.new.graph c.coarsen.new.graph
    c.args.tools.now.stitcher c.args.tools.now.planes c.refine_broken-refined.new.tools.planes c.coarsen.new.planes
    c.args.tools.now.run_log c.refine_broken-refined.new.tools.run_log c.coarsen.new.run_log
    c.args.tools.now.spans c.refine_broken-refined.new.tools.spans c.args.steps.now c.refine_broken-refined.new.steps c.coarsen.new.steps
    c.requires.ready (c.refine_broken-refined.ensures.list ∙ c.requires.ready.listed) c.in-Ok.ensures.writes c.in-Ok.ensures.ok c.ids_used.ensures.typed
    c.in-Ok.ensures.more c.in-Ok.ensures.few
    c.coarsen.ensures.run c.coarsen.ensures.used c.coarsen.ensures.others c.coarsen.ensures.list c.coarsen.ensures.marks c.coarsen.ensures.more c.coarsen.ensures.few
