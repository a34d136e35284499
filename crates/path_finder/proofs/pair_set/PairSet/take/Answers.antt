use Rattle.std.proofs.Common.{◌==◌, ℕ, w64, ap, refl, arith}
use Rattle.std.proofs.lemmas.Nat.Bits.{bit_at-trailing_zeros}
use Rattle.std.specs.Int.{trailing_zeros}
use Rattle.path_finder.proofs.PairSets.{empty-marks, taken-pairs}
use Rattle.path_finder.proofs.pair_set.PairSet.take.Goals as goal

pub returns-then-at-ge-PAIR_WORDS-clause-taken : goal.returns-then-at-ge-PAIR_WORDS-clause-taken
returns-then-at-ge-PAIR_WORDS-clause-taken c =
    let marks : ℕ = c.args.self.now.marks in
    let low = bit_at-trailing_zeros w64 marks (omega (arith, c.if-self-eq0.false)) (omega arith) in
    empty-marks c.args.self.now (omega arith) c.requires.marked (λ w l. ap (λ (b : ℕ). b == 1) (low.2 w (omega (arith, l, c.if-at-ge-PAIR_WORDS.true))))

pub returns-then-at-ge-PAIR_WORDS-clause-emptied : goal.returns-then-at-ge-PAIR_WORDS-clause-emptied
returns-then-at-ge-PAIR_WORDS-clause-emptied c =
    let marks : ℕ = c.args.self.now.marks in
    let low = bit_at-trailing_zeros w64 marks (omega (arith, c.if-self-eq0.false)) (omega arith) in
    empty-marks c.args.self.now (omega arith) c.requires.marked (λ w l. ap (λ (b : ℕ). b == 1) (low.2 w (omega (arith, l, c.if-at-ge-PAIR_WORDS.true))))

pub returns-clause-taken : goal.returns-clause-taken
returns-clause-taken c =
    let marks : ℕ = c.args.self.now.marks in
    let low = bit_at-trailing_zeros w64 marks (omega (arith, c.if-self-eq0.false)) (omega arith) in
    taken-pairs c.args.self.now _ _ (trailing_zeros w64 marks) c.if-at-ge-PAIR_WORDS.false (omega arith) refl (c.without_bit-self.ensures.fewer low.1) refl refl refl
