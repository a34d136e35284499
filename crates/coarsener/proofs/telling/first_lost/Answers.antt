use Rattle.std.proofs.Common.{List, sym, subst}
use Rattle.invariants.specs.declared.Invariant.{Invariant}
use Rattle.partition_model.specs.Graphs.{Merged}
use Rattle.partition_model.specs.Assignments.{G}
use Rattle.coarsener.specs.declared.telling.Told.{Told}
use Rattle.coarsener.specs.Deciding.{IsFirstBad, IsFirstLost}
use Rattle.coarsener.specs.Telling.{TellsLosses, TellByLabels, TellByMarks}
use Rattle.coarsener.proofs.telling.first_lost.Goals as goal

pub returns-in-Labels-clause-first : goal.returns-in-Labels-clause-first
returns-in-Labels-clause-first c h t i f =
    let labels : TellByLabels c.args.planes.now (G h) = subst (λ (told : Told). TellsLosses told c.args.planes.now (G h)) c.in-Labels.is f in
    c.first_bad.ensures (Merged (G h) c.args.pair.p c.args.pair.q) (labels c.args.pair.p c.args.pair.q i)

pub returns-in-Marks-clause-first : goal.returns-in-Marks-clause-first
returns-in-Marks-clause-first c h t i f =
    let told : TellByMarks c.in-Marks.bad c.args.planes.now (G h) = subst (λ (told : Told). TellsLosses told c.args.planes.now (G h)) c.in-Marks.is f in
    subst (λ (invs : List Invariant). IsFirstLost h invs c.args.pair.p c.args.pair.q c.lost_by.result) told.listed
    (c.lost_by.ensures.first h t i told.marks (subst (λ (invs : List Invariant). IsFirstBad (G h) invs c.in-Marks.bad) (sym told.listed) told.bad))
