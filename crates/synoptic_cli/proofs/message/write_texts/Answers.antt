use Rattle.std.proofs.Common.{List, ℕ, arith, subst}
use Rattle.std.proofs.lemmas.Result.{err_from_is_err_and}
use Rattle.outside.specs.Sinks.{AppendsFront}
use Rattle.synoptic_cli.proofs.Texts.{fails-within, rose-since}
use Rattle.synoptic_cli.proofs.message.write_texts.Goals as goal

pub returns-in_err-write_whole : goal.returns-in_err-write_whole
returns-in_err-write_whole g c =
    let p = err_from_is_err_and c.from_residual.result c.from_residual.ensures.1 in
    let old = g.S.Sink.state c.args.sink.now in
    let mid = g.S.Sink.state c.loop-text.sink in
    let new = g.S.Sink.state c.write_whole.new.sink in
    rw p.1 (
      fails-within (λ text. text.now) c.args.texts.now c.loop-text.text-index _ old mid new c.loop-text-test.true c.loop-text.invariant
          (subst (λ (t : List ℕ). AppendsFront mid t new) c.as_bytes.ensures.value c.in_err-write_whole.ensures.gives.0),
      rose-since old.faults mid.faults new.faults (omega (arith, c.loop-text.invariant.faults)) c.in_err-write_whole.ensures.gives.1,
    )
