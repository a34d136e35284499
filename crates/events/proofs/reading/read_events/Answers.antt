use Rattle.std.proofs.Common.{◌≡◌, subst}
use Rattle.std.proofs.lemmas.Result.{err_from_is_err_and}
use Rattle.log_reader.specs.Files.{ReadsInputs}
use Rattle.log_reader.specs.Inputs.{HasReadCause}
use Rattle.log_reader.specs.LogLines.{events_at}
use Rattle.log_reader.specs.SoFar.{IsGatheredOf, setting_of}
use Rattle.log_reader.specs.Views.{names_in}
use Rattle.events.specs.Located.{events_located}
use Rattle.events.specs.Reading.{ReadsEvents}
use Rattle.events.proofs.Locating.{events-read}
use Rattle.events.proofs.reading.read_events.Goals as goal

pub read_inputs-requires-clause-nothing : goal.read_inputs-requires-clause-nothing
read_inputs-requires-clause-nothing g c = (c.in_ok-reader.ensures.log, c.in_ok-reader.ensures.none)

pub returns-in-Err-clause-err : goal.returns-in-Err-clause-err
returns-in-Err-clause-err g c =
    subst (λ s. HasReadCause s (names_in c.args.names.now) (g.I.Inputs.state c.args.inputs.now) (g.I.Inputs.state c.read_inputs.new.inputs) c.in-Err.error) c.in_ok-reader.ensures.setting c.in-Err.ensures.err

pub returns-in_err-finish-clause-err : goal.returns-in_err-finish-clause-err
returns-in_err-finish-clause-err g c =
    let p = err_from_is_err_and c.from_residual-in_err-finish.result c.from_residual-in_err-finish.ensures.1 in
    rw (p.1, p.2) (c.in-Ok.ensures.ok.last)

pub returns-clause-ok : goal.returns-clause-ok
returns-clause-ok g c =
    let names = names_in c.args.names.now in
    let old = g.I.Inputs.state c.args.inputs.now in
    let new = g.I.Inputs.state c.read_inputs.new.inputs in
    let s = setting_of c.in_ok-reader.reader.reader in
    let builder = c.read_inputs.new.reader.reader.log.builder in
    let kept = c.read_inputs.new.reader.located.items in
    let events = c.in_ok-finish.field-0 in
    let reads : ReadsInputs s names old new (λ lines. IsGatheredOf builder (events_at s lines) × (kept ≡ events_located s lines)) =
    subst (λ t. ReadsInputs s names old new (λ lines. IsGatheredOf builder (events_at t lines) × (kept ≡ events_located t lines))) c.in-Ok.ensures.setting c.in-Ok.ensures.ok in
    subst (λ s. ReadsEvents s names old new events.traces events.located.items) c.in_ok-reader.ensures.setting
    (events-read s names old new builder events.traces kept events.located.items reads c.in_ok-finish.ensures.traces c.in_ok-finish.ensures.located c.gathering_in_order_is_the_log.ensures)
