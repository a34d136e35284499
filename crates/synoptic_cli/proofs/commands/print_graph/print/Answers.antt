use Rattle.std.proofs.Common.{◌∙◌, ℕ, List, Result, Ok, ap, arith}
use Rattle.synoptic_cli.specs.declared.answer.Answer.{Answer}
use Rattle.synoptic_cli.specs.declared.status.LimitKind.{LimitKind}
use Rattle.synoptic_cli.specs.Commands.Answered.{done}
use Rattle.synoptic_cli.proofs.Shown.{graph-shown, graph-text}
use Rattle.synoptic_cli.proofs.commands.print_graph.print.Goals as goal

pub returns : goal.returns
returns c =
    let log = c.args.material.now.log in
    let lists = c.in_ok-partitions.ensures in
    let text =
    graph-text log c.types-types.result.now c.as_slice.result.now c.as_slice-2.result.now c.in_ok-text.text c.types-types.ensures.value (c.as_slice.ensures ∙ lists.partitions) (c.as_slice-2.ensures ∙ lists.edges)
    c.in_ok-text.ensures in
    record {
      value = ap (λ (t : List ℕ). let r : Result Answer LimitKind = Ok (done t) in r) text;
      exact = graph-shown log c.accepts_traces.ensures c.listings_tell.ensures c.graphs_are_formed.ensures lists.typed (omega arith) lists.below;
    }
