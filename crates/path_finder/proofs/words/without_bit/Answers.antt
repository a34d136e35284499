use Rattle.std.proofs.Common.{ℕ, ◌*◌, ◌-◌, ◌%◌, ◌^◌, bit_and, ap, inl, inr, arith}
use Rattle.std.proofs.lemmas.Bool.{cases_eq}
use Rattle.std.proofs.lemmas.Nat.{and_le_l}
use Rattle.std.specs.Int.{bit_at, w64}
use Rattle.std.proofs.lemmas.Nat.Bits.{bit_at_clear_same, bit_at_clear_other}
use Rattle.path_finder.proofs.words.without_bit.Goals as goal

pub returns-clause-there : goal.returns-clause-there
returns-clause-there c = bit_at_clear_same w64 c.args.word c.args.place c.requires

pub returns-clause-others : goal.returns-clause-others
returns-clause-others c = λ i below ne. bit_at_clear_other w64 c.args.word c.args.place c.requires i below ne

pub returns-clause-fewer : goal.returns-clause-fewer
returns-clause-fewer c is =
    let less : ℕ = bit_and c.args.word (18446744073709551615 - 1 * 2 ^ c.args.place % 18446744073709551616) in
    elim (cases_eq less c.args.word) [
      | inl same ↦ absurd (omega (arith, is, ap (λ (x : ℕ). bit_at x c.args.place) same, bit_at_clear_same w64 c.args.word c.args.place c.requires))
      | inr other ↦ omega (arith, other, and_le_l c.args.word (18446744073709551615 - 1 * 2 ^ c.args.place % 18446744073709551616))
    ]
