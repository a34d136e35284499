use Rattle.synoptic_cli.proofs.Texts.{HasWritten}
use Rattle.synoptic_cli.proofs.message.write_texts.Given as goal

abbrev pub invariant-loop-text : goal.invariant-loop-text
invariant-loop-text g l = HasWritten (λ text. text.now) l.texts l.text-index (g.S.Sink.state l.fn.sink) (g.S.Sink.state l.sink)
