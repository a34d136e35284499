use Rattle.std.proofs.Common.{◌≤◌, List, ap, subst, sym, ◌∙◌, arith}
use Rattle.limits.specs.declared.TheConstants.{MAX_PARTITIONS}
use Rattle.invariants.specs.declared.Invariant.{Invariant}
use Rattle.partition_model.specs.Assignments.{G}
use Rattle.partition_model.specs.Coarsening.{Coarsens}
use Rattle.partition_model.specs.Refinement.{SatisfiesAll}
use Rattle.partition_bounds.proofs.Pairing.{pairs_within_limit}
use Rattle.cell_pool.specs.RunLists.{RunLists}
use Rattle.cell_pool.specs.Numbers.{Numbers}
use Rattle.run_history.specs.Records.{merges_of, splits_of}
use Rattle.coarsener.proofs.Ended.{coarsened-none, holds-merged, refined-satisfies}
use Rattle.tests.proofs.graphs.runs.run.Goals as goal

pub coarsen-requires-clause-satisfied : goal.coarsen-requires-clause-satisfied
coarsen-requires-clause-satisfied g c =
    subst (λ (invs : List Invariant). SatisfiesAll (G c.refine.new.graph.traces) invs) (sym c.requires.listed)
    (refined-satisfies c.args.invs.now (splits_of c.refine.new.run_log c.refine.new.spans) c.args.graph.now.traces c.args.graph.now.used c.refine.new.graph.traces c.in-Ok.ensures.ok.run)

pub coarsen-requires-clause-begun : goal.coarsen-requires-clause-begun
coarsen-requires-clause-begun g c =
    ap (λ (run_log : RunLists). run_log.merges) c.in-Ok.ensures.writes.log_is ∙ ap (λ (run_log : RunLists). run_log.merges) c.requires.run_log

pub blocks-end-requires-clause-ended : goal.blocks-end-requires-clause-ended
blocks-end-requires-clause-ended g c =
    coarsened-none c.args.invs.now (merges_of c.coarsen.new.run_log) c.refine.new.graph.traces c.coarsen.new.graph.traces
    (subst (λ (invs : List Invariant). Coarsens invs c.refine.new.graph.traces (merges_of c.coarsen.new.run_log) c.coarsen.new.graph.traces) c.requires.listed c.coarsen.ensures.run)

pub blocks-end-requires-clause-numbers : goal.blocks-end-requires-clause-numbers
blocks-end-requires-clause-numbers g c =
    ap (λ (spans : Numbers). spans.room) c.in-Ok.ensures.writes.spans_are ∙ ap (λ (spans : Numbers). spans.room) c.requires.spans

pub blocks-end-requires-clause-begun : goal.blocks-end-requires-clause-begun
blocks-end-requires-clause-begun g c =
    ap (λ (run_log : RunLists). run_log.blocks) c.coarsen.ensures.others
    ∙ (ap (λ (run_log : RunLists). run_log.blocks) c.in-Ok.ensures.writes.log_is ∙ ap (λ (run_log : RunLists). run_log.blocks) c.requires.run_log)

pub blocks-end-requires-clause-room : goal.blocks-end-requires-clause-room
blocks-end-requires-clause-room g c =
    let few : c.coarsen.new.graph.used ≤ MAX_PARTITIONS = omega (arith, c.ids_used.ensures.value, c.ids_used.ensures.limit) in
    omega (
      arith,
      pairs_within_limit (G c.coarsen.new.graph.traces) c.coarsen.new.graph.used few,
      ap (λ (run_log : RunLists). run_log.block_room) c.coarsen.ensures.others,
      ap (λ (run_log : RunLists). run_log.block_room) c.in-Ok.ensures.writes.log_is,
      ap (λ (run_log : RunLists). run_log.block_room) c.requires.run_log,
    )

pub returns : goal.returns
returns g c =
    c.blocks-end.ensures.holds (holds-merged c.refine.new.run_log c.coarsen.new.run_log c.refine.new.spans c.coarsen.ensures.others c.in-Ok.ensures.writes.paths)
