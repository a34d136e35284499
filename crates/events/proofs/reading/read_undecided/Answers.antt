use Rattle.std.proofs.Common.{◌≡◌, ap, subst}
use Rattle.log_reader.specs.Files.{ReadsInputs}
use Rattle.log_reader.specs.Inputs.{HasReadCause}
use Rattle.log_reader.specs.LogLines.{events_at}
use Rattle.log_reader.specs.SoFar.{IsGatheredOf, setting_of}
use Rattle.log_reader.specs.Views.{names_in}
use Rattle.events.specs.Reading.{ReadsUndecided}
use Rattle.events.specs.Undecided.{shown_lines, undecided_lines}
use Rattle.events.proofs.Collecting.{undecided-read}
use Rattle.events.proofs.reading.read_undecided.Goals as goal

pub read_inputs-requires-clause-nothing : goal.read_inputs-requires-clause-nothing
read_inputs-requires-clause-nothing g c = (c.in_ok-reader.ensures.log, ap shown_lines c.in_ok-reader.ensures.none)

pub returns-in-Err-clause-err : goal.returns-in-Err-clause-err
returns-in-Err-clause-err g c =
    subst (λ s. HasReadCause s (names_in c.args.names.now) (g.I.Inputs.state c.args.inputs.now) (g.I.Inputs.state c.read_inputs.new.inputs) c.in-Err.error) c.in_ok-reader.ensures.setting c.in-Err.ensures.err

pub returns-clause-ok : goal.returns-clause-ok
returns-clause-ok g c =
    let names = names_in c.args.names.now in
    let old = g.I.Inputs.state c.args.inputs.now in
    let new = g.I.Inputs.state c.read_inputs.new.inputs in
    let s = setting_of c.in_ok-reader.reader.reader in
    let builder = c.read_inputs.new.reader.reader.log.builder in
    let kept = shown_lines c.read_inputs.new.reader.lines.items in
    let lines = shown_lines c.finish.result.items in
    let reads : ReadsInputs s names old new (λ lines. IsGatheredOf builder (events_at s lines) × (kept ≡ undecided_lines s lines)) =
    subst (λ t. ReadsInputs s names old new (λ lines. IsGatheredOf builder (events_at t lines) × (kept ≡ undecided_lines t lines))) c.in-Ok.ensures.setting c.in-Ok.ensures.ok in
    subst (λ s. ReadsUndecided s names old new lines) c.in_ok-reader.ensures.setting
    (undecided-read s names old new builder kept lines reads (ap shown_lines c.finish.ensures))
