use Rattle.std.proofs.Common.{◌≡◌, ◌∙◌, IfOk, length, ap, sym, subst}
use Rattle.partition_model.specs.Listings.{partitions_below}
use Rattle.partition_graph.specs.Cells.{traces_of}
use Rattle.partition_graph.specs.Parts.{Parts}
use Rattle.partition_graph.proofs.CountedWords.{kept-counted}
use Rattle.partition_graph.proofs.graph.PartGraph.partitions.Goals as goal

pub returns : goal.returns
returns c =
    let g = c.self.inside in
    subst (λ (x : Parts). IfOk c.partitions_of.result (λ list. list ≡ partitions_below x.used x.traces)) c.self.view_is
    (c.partitions_of.ensures (traces_of g.events)
    (kept-counted g.events g.firsts.items g.tables g.used c.trace_count.result (c.trace_count.ensures ∙ sym (ap (λ (x : Parts). length x.traces) c.self.view_is)) c.self.invariant))
