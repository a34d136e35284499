use Rattle.std.proofs.Common.{◌∙◌, ℕ, List, length, length-append, ap, sym, subst, refl, inl, inr, arith}
use Rattle.invariants.specs.declared.Invariant.{Invariant}
use Rattle.partition_model.specs.Assignments.{G}
use Rattle.partition_model.specs.Refinement.{SatisfiesAll}
use Rattle.partition_model.specs.Coarsening.{merge}
use Rattle.cell_pool.specs.RunLists.{RunLists}
use Rattle.partition_graph.specs.Parts.{Parts}
use Rattle.clashes.specs.Marks.{AreMarksOf, NoClash, IsFirstClash}
use Rattle.labelling.specs.Labelled.{Labelling}
use Rattle.coarsener.specs.Marking.{AreMarksNow}
use Rattle.coarsener.specs.Deciding.{IsLost}
use Rattle.coarsener.proofs.Deciding.{IsTold, some-clash, no-clash, merge-keeps, merge-loses}
use Rattle.coarsener.proofs.merging.merge_unless_lost.Goals as goal

pub returns-then-is_some-clause-decided : goal.returns-then-is_some-clause-decided
returns-then-is_some-clause-decided c =
    let told : IsTold c.args.planes.now.clashes c.args.graph.now.traces c.args.pair.p c.args.pair.q =
    record { typed = c.requires.typed; pair = c.requires.pair; limit = c.requires.limit; marks_are = c.requires.marks } in
    let f : (k : ℕ) × IsFirstClash c.args.planes.now.clashes c.args.pair.p c.args.pair.q k =
    some-clash c.args.planes.now.clashes c.args.pair.p c.args.pair.q c.first_clash.result (sym c.is_some.ensures ∙ c.if-is_some.true) c.first_clash.ensures.first in
    let all : SatisfiesAll (G c.args.graph.now.traces) c.args.planes.now.clashes.invs =
    subst (λ (invs : List Invariant). SatisfiesAll (G c.args.graph.now.traces) invs) (sym c.requires.listed) c.requires.satisfied in
    inl (record {
      lost = subst (λ (invs : List Invariant). IsLost invs c.args.graph.now c.args.pair.p c.args.pair.q) c.requires.listed
          (merge-loses c.args.planes.now.clashes c.args.graph.now.traces c.args.pair.p c.args.pair.q f.0 told all f.1);
      graph = refl;
      told = refl;
    })

pub returns-clause-decided : goal.returns-clause-decided
returns-clause-decided c =
    let told : IsTold c.args.planes.now.clashes c.args.graph.now.traces c.args.pair.p c.args.pair.q =
    record { typed = c.requires.typed; pair = c.requires.pair; limit = c.requires.limit; marks_are = c.requires.marks } in
    let n : NoClash c.args.planes.now.clashes c.args.pair.p c.args.pair.q =
    no-clash c.args.planes.now.clashes c.args.pair.p c.args.pair.q c.first_clash.result (sym c.is_some.ensures ∙ c.if-is_some.false) c.first_clash.ensures.first in
    let all : SatisfiesAll (G c.args.graph.now.traces) c.args.planes.now.clashes.invs =
    subst (λ (invs : List Invariant). SatisfiesAll (G c.args.graph.now.traces) invs) (sym c.requires.listed) c.requires.satisfied in
    inr (record {
      keeps = subst (λ (invs : List Invariant). SatisfiesAll (G (merge c.args.pair.p c.args.pair.q c.args.graph.now.traces)) invs) c.requires.listed
          (merge-keeps c.args.planes.now.clashes c.args.graph.now.traces c.args.pair.p c.args.pair.q told all n);
      graph = c.merge.ensures;
      told = c.add_merge.ensures;
    })

pub returns-then-is_some-clause-marked : goal.returns-then-is_some-clause-marked
returns-then-is_some-clause-marked c =
    subst (λ (planes : Labelling). AreMarksNow planes c.args.graph.now) (sym c.first_clash.ensures.same) (record { marks = c.requires.marks; listed = c.requires.listed })

pub returns-clause-marked : goal.returns-clause-marked
returns-clause-marked c =
    record {
      old = c.args.graph.now.traces;
      typed = c.requires.typed;
      is_pair = c.requires.pair;
      limit = c.requires.limit;
      merged = ap (λ (parts : Parts). parts.traces) c.merge.ensures;
      marks = subst (λ (planes : Labelling). AreMarksOf planes.clashes (G c.args.graph.now.traces)) (sym c.first_clash.ensures.same) c.requires.marks;
    }

pub returns-then-is_some-clause-owes : goal.returns-then-is_some-clause-owes
returns-then-is_some-clause-owes c = omega arith

pub returns-clause-owes : goal.returns-clause-owes
returns-clause-owes c = ap (λ (run_log : RunLists). length run_log.merges) c.add_merge.ensures ∙ length-append c.args.run_log.now.merges _
