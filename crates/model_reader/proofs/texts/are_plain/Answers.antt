use Rattle.model_reader.proofs.Escapes.{escape_step}
use Rattle.model_reader.proofs.texts.are_plain.Goals as goal

pub loop-byte-preserved : goal.loop-byte-preserved
loop-byte-preserved c = escape_step c.args.bytes.now c.loop-byte.byte-index _ c.loop-byte-test.true c.if-byte-lt32.false c.if-byte-eq34.false c.if-byte-eq92.false c.loop-byte.invariant
