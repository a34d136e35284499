use Rattle.std.proofs.Common.{List, sym, subst}
use Rattle.invariants.specs.declared.Invariant.{Invariant}
use Rattle.partition_model.specs.Assignments.{G}
use Rattle.partition_model.specs.Refinement.{SatisfiesAll}
use Rattle.coarsener.proofs.blocking.blocks_marked.Goals as goal

pub blocks_told-requires-clause-told : goal.blocks_told-requires-clause-told
blocks_told-requires-clause-told g c some =
    record {
      marks = (c.requires.marks some).marks;
      bad = subst (λ (invs : List Invariant). SatisfiesAll (G c.args.end.graph.now.traces) invs) (sym c.requires.listed) c.requires.satisfied;
      listed = (c.requires.marks some).listed;
    }
