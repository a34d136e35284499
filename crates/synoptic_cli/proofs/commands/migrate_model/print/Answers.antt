use Rattle.std.proofs.Common.{◌≡◌, ℕ, List, Result, Ok, ap, subst}
use Rattle.model_file.specs.Reading.{reads}
use Rattle.synoptic_cli.specs.declared.answer.Answer.{Answer}
use Rattle.synoptic_cli.specs.declared.status.LimitKind.{LimitKind}
use Rattle.synoptic_cli.specs.Commands.Answered.{done}
use Rattle.synoptic_cli.proofs.commands.migrate_model.print.Goals as goal

pub returns : goal.returns
returns c = record {
  value = ap (λ (t : List ℕ). let r : Result Answer LimitKind = Ok (done t) in r) c.in_ok-text.ensures.value;
  reads_back = subst (λ (t : List ℕ). reads t ≡ Ok c.args.material.now.model) c.in_ok-text.ensures.value c.in_ok-text.ensures.reads_back;
  former = c.requires.former;
}
