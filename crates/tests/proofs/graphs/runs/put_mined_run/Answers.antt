use Rattle.std.proofs.Common.{List, length, subst, sym, ◌∙◌}
use Rattle.invariants.specs.declared.Invariant.{Invariant}
use Rattle.partition_graph.specs.Parts.{Parts, start_of}
use Rattle.partition_model.specs.Assignments.{inner_words}
use Rattle.partition_model.specs.Laws.{HoldAll}
use Rattle.splitter.proofs.Mining.{mined-hold}
use Rattle.tests.proofs.graphs.runs.put_mined_run.Goals as goal

pub put_run_by-requires-clause-hold : goal.put_run_by-requires-clause-hold
put_run_by-requires-clause-hold c =
    subst (λ (p : Parts). HoldAll (inner_words p.traces) c.as_slice.result.now) (sym c.requires)
    (subst (λ (invs : List Invariant). HoldAll (inner_words (start_of c.args.log.now).traces) invs) (sym (c.as_slice.ensures ∙ c.in_ok-mined.ensures))
    (mined-hold c.args.log.now c.args.kinds (length c.args.log.now.types)))
