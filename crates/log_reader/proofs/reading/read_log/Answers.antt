use Rattle.std.proofs.Common.{subst}
use Rattle.std.proofs.lemmas.Result.{err_from_is_err_and}
use Rattle.log_reader.specs.Files.{ReadsInputs}
use Rattle.log_reader.specs.Inputs.{HasReadCause, ReadsLog}
use Rattle.log_reader.specs.LogLines.{events_at}
use Rattle.log_reader.specs.SoFar.{IsGatheredOf, setting_of}
use Rattle.log_reader.specs.Views.{names_in}
use Rattle.log_reader.proofs.InputByInput.{gathered-log}
use Rattle.log_reader.proofs.reading.read_log.Goals as goal

pub read_inputs-requires-clause-nothing : goal.read_inputs-requires-clause-nothing
read_inputs-requires-clause-nothing g c = c.in_ok-reader.ensures.log

pub returns-in-Err-clause-err : goal.returns-in-Err-clause-err
returns-in-Err-clause-err g c =
    subst (λ s. HasReadCause s (names_in c.args.names.now) (g.I.Inputs.state c.args.inputs.now) (g.I.Inputs.state c.read_inputs.new.inputs) c.in-Err.error) c.in_ok-reader.ensures.setting c.in-Err.ensures.err

pub returns-in_err-finish-clause-err : goal.returns-in_err-finish-clause-err
returns-in_err-finish-clause-err g c =
    let p = err_from_is_err_and c.from_residual-in_err-finish.result c.from_residual-in_err-finish.ensures.1 in
    rw (p.1, p.2) (c.in-Ok.ensures.ok.last)

pub returns-clause-ok : goal.returns-clause-ok
returns-clause-ok g c =
    let names = names_in c.args.names.now in
    let old = g.I.Inputs.state c.args.inputs.now in
    let new = g.I.Inputs.state c.read_inputs.new.inputs in
    let s = setting_of c.in_ok-reader.reader in
    let builder = c.read_inputs.new.reader.log.builder in
    let reads : ReadsInputs s names old new (λ lines. IsGatheredOf builder (events_at s lines)) =
    subst (λ t. ReadsInputs s names old new (λ lines. IsGatheredOf builder (events_at t lines))) c.in-Ok.ensures.setting c.in-Ok.ensures.ok in
    subst (λ s. ReadsLog s names old new c.in_ok-finish.field-0) c.in_ok-reader.ensures.setting
    (gathered-log s names old new builder c.in_ok-finish.field-0 reads c.in_ok-finish.ensures c.gathering_in_order_is_the_log.ensures)
