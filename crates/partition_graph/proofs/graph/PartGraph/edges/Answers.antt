use Rattle.std.proofs.Common.{◌≡◌, IfOk, length, refl, subst}
use Rattle.partition_model.specs.Listings.{edges_below}
use Rattle.partition_graph.specs.Cells.{traces_of}
use Rattle.partition_graph.specs.Parts.{Parts}
use Rattle.partition_graph.proofs.CountedWords.{kept-counted}
use Rattle.partition_graph.proofs.graph.PartGraph.edges.Goals as goal

pub returns : goal.returns
returns c =
    let g = c.self.inside in
    subst (λ (x : Parts). IfOk c.edges_of.result (λ list. list ≡ edges_below x.used x.traces)) c.self.view_is
    (c.edges_of.ensures (traces_of g.events) (length (traces_of g.events)) (kept-counted g.events g.firsts.items g.tables g.used (length (traces_of g.events)) refl c.self.invariant))
