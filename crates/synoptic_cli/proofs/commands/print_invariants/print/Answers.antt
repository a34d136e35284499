use Rattle.std.proofs.Common.{◌∙◌, ℕ, List, Result, Ok, ap, ap₂}
use Rattle.invariants.specs.declared.Invariant.{Invariant}
use Rattle.reports.specs.Reports.{invariant_report}
use Rattle.synoptic_cli.specs.declared.answer.Answer.{Answer}
use Rattle.synoptic_cli.specs.declared.status.LimitKind.{LimitKind}
use Rattle.synoptic_cli.specs.Commands.Answered.{done}
use Rattle.synoptic_cli.proofs.Listed.{lists-exactly}
use Rattle.synoptic_cli.proofs.commands.print_invariants.print.Goals as goal

pub returns : goal.returns
returns c =
    let text =
    c.in_ok-text.ensures
    ∙ ap₂ (λ (types : List (List ℕ)) (invs : List Invariant). invariant_report types invs) c.types-types.ensures.value (c.as_slice.ensures ∙ c.in_ok-mined.ensures) in
    record {
      value = ap (λ (t : List ℕ). let r : Result Answer LimitKind = Ok (done t) in r) text;
      exact = lists-exactly c.mined_tells.ensures c.mined_keeps_order.ensures c.candidates_tell.ensures c.args.kinds c.args.material.now.log;
    }
