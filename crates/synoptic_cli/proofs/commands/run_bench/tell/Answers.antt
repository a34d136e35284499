use Rattle.std.proofs.Common.{List, ℕ, ap, subst, ◌∙◌}
use Rattle.invariants.specs.declared.Kinds.{Kinds}
use Rattle.traces.specs.Words.{Log}
use Rattle.models.specs.Models.{typed_words}
use Rattle.model_check.specs.declared.verdict.Verdict.{Verdict}
use Rattle.model_check.specs.declared.verdict.Verdict.TheVariants.{Yes}
use Rattle.model_file.specs.Reading.{reads}
use Rattle.synoptic_cli.specs.Commands.InferModel.{WritesModel}
use Rattle.synoptic_cli.specs.Commands.RunBench.{IsChecked, summary}
use Rattle.synoptic_cli.proofs.Benched.{run-told}
use Rattle.synoptic_cli.proofs.commands.run_bench.tell.Goals as goal

pub read_and_check-requires : goal.read_and_check-requires
read_and_check-requires c = (c.in_ok-file.ensures.model, ap reads c.into_vec.ensures ∙ c.in_ok-file.ensures.reads_back)

pub returns : goal.returns
returns c =
    let log = c.args.workbench.now.log in
    let file = c.in_ok-file.file in
    let read = c.in_ok-checked.checked.model in
    let of_file = subst (λ (t : List ℕ). IsChecked t (typed_words read.kinds c.traces-traces.result.now) read c.in_ok-checked.checked.verdict) c.into_vec.ensures c.in_ok-checked.ensures in
    let of_log = subst (λ (l : Log). IsChecked file.text (typed_words read.kinds l) read c.in_ok-checked.checked.verdict) c.traces-traces.ensures of_file in
    let yes : IsChecked file.text (typed_words read.kinds log) read Yes = subst (λ (v : Verdict). IsChecked file.text (typed_words read.kinds log) read v) c.in-Yes.is of_log in
    run-told log file read c.in_ok-summed-in-Yes.field-0 (subst (λ (kinds : Kinds). WritesModel (typed_words kinds log) file) c.requires.kinds c.in_ok-file.ensures) yes (c.in_ok-summed-in-Yes.ensures ∙ ap (λ (l : Log). summary l read) c.traces-traces.ensures)
