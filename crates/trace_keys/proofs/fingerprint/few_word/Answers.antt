use Rattle.std.proofs.Common.{◌-◌, arith}
use Rattle.trace_keys.proofs.Numbers.{rest-below}
use Rattle.trace_keys.proofs.fingerprint.few_word.Goals as goal

pub overflow_mul-word : goal.overflow_mul-word
overflow_mul-word c = omega (arith, rest-below c.args.bytes.now c.loop-left.left c.loop-left.word c.are_bytes.ensures c.requires (omega (arith, c.loop-left-test.true)) c.loop-left.invariant.0)

pub overflow_add-word : goal.overflow_add-word
overflow_add-word c = omega (arith, c.from.ensures, c.are_bytes.ensures (c.loop-left.left - 1), rest-below c.args.bytes.now c.loop-left.left c.loop-left.word c.are_bytes.ensures c.requires (omega (arith, c.loop-left-test.true)) c.loop-left.invariant.0)
