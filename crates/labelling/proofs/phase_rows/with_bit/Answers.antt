use Rattle.std.proofs.Common.{ℕ, eqb, sym, ap, ◌∙◌}
use Rattle.std.specs.Int.{w64}
use Rattle.std.proofs.lemmas.Nat.Bits.{bit_at_set_same, bit_at_set_other}
use Rattle.labelling.proofs.phase_rows.with_bit.Goals as goal

pub returns-then-on-clause-there : goal.returns-then-on-clause-there
returns-then-on-clause-there c = ap (λ (x : ℕ). eqb x 1) (bit_at_set_same w64 c.args.word c.args.place c.requires.place) ∙ sym c.if-on.true

pub returns-then-on-clause-others : goal.returns-then-on-clause-others
returns-then-on-clause-others c = λ i ne. bit_at_set_other w64 c.args.word c.args.place c.requires.place i ne

pub returns-else-on-clause-there : goal.returns-else-on-clause-there
returns-else-on-clause-there c = ap (λ (x : ℕ). eqb x 1) c.requires.off ∙ sym c.if-on.false
