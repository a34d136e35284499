use Rattle.std.proofs.Common.{List, ap, sym, subst, refl}
use Rattle.std.specs.List.{All}
use Rattle.partition_graph.specs.declared.cells.Cell.{Cell}
use Rattle.partition_graph.specs.Cells.{traces_of}
use Rattle.partition_graph.specs.Counts.{HasId}
use Rattle.partition_graph.specs.Kept.{IsKept}
use Rattle.partition_graph.specs.Tables.{IsCountOf}
use Rattle.partition_graph.proofs.Gathered.{starts}
use Rattle.partition_graph.proofs.graph.PartGraph.of_cells.Goals as goal

pub open-requires-clause-ids : goal.open-requires-clause-ids
open-requires-clause-ids c = subst (λ (cs : List Cell). All HasId cs) (sym c.deref.ensures.value) c.requires.ids

pub invariant_of-result : goal.invariant_of-result
invariant_of-result c =
    let counted : IsCountOf c.in_ok-tables.tables c.args.cells.items = subst (λ (cs : List Cell). IsCountOf c.in_ok-tables.tables cs) c.deref.ensures.value c.in_ok-tables.ensures in
    subst (λ (cs : List Cell). IsKept cs c.args.firsts.items c.in_ok-tables.tables c.args.used) (sym c.in_ok-events.ensures)
    (c.requires.kept c.in_ok-tables.tables counted)

pub returns : goal.returns
returns c =
    starts (traces_of c.in_ok-events.events) (traces_of c.args.cells.items) c.args.used c.args.used (ap (λ (cs : List Cell). traces_of cs) c.in_ok-events.ensures) refl
