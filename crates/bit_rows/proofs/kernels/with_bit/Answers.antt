use Rattle.std.specs.Int.{w64}
use Rattle.std.proofs.lemmas.Nat.Bits.{bit_at_set_same, bit_at_set_other, bit_at_clear_same, bit_at_clear_other}
use Rattle.bit_rows.proofs.kernels.with_bit.Goals as goal

pub returns-then-on-clause-there : goal.returns-then-on-clause-there
returns-then-on-clause-there c = rw c.if-on.true (bit_at_set_same w64 c.args.word c.args.place c.requires)

pub returns-then-on-clause-others : goal.returns-then-on-clause-others
returns-then-on-clause-others c = λ i below ne. bit_at_set_other w64 c.args.word c.args.place c.requires i ne

pub returns-else-on-clause-there : goal.returns-else-on-clause-there
returns-else-on-clause-there c = rw c.if-on.false (bit_at_clear_same w64 c.args.word c.args.place c.requires)

pub returns-else-on-clause-others : goal.returns-else-on-clause-others
returns-else-on-clause-others c = λ i below ne. bit_at_clear_other w64 c.args.word c.args.place c.requires i below ne
