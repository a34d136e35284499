use Rattle.std.proofs.Common.{◌+◌, ℕ, zero, suc, List, arith}
use Rattle.infer_core.proofs.Windows.{rows-same, same-after}
use Rattle.infer_core.proofs.labels.apart_of.Goals as goal

pub loop-word-preserved : goal.loop-word-preserved
loop-word-preserved c =
    let words : List (List ℕ) = c.args.words.now in
    let i : ℕ = c.loop-word.word-index in
    record {
      by_one = same-after words i 1 c.loop-word.by_one c.differs_in-by_one.result c.loop-word.invariant.by_one c.differs_in-by_one.ensures;
      by_two = same-after words i 2 c.loop-word.by_two c.differs_in-by_two.result c.loop-word.invariant.by_two c.differs_in-by_two.ensures;
      by_three = same-after words i 3 c.loop-word.by_three c.differs_in-by_three.result c.loop-word.invariant.by_three c.differs_in-by_three.ensures;
    }

pub returns-clause-apart : goal.returns-clause-apart
returns-clause-apart c zero k low off = rows-same c.args.words.now k (1 + k) (λ j m. c.loop-word.invariant.by_one k off j (omega (arith, m, c.loop-word-test.false)))
returns-clause-apart c (suc zero) k low off = rows-same c.args.words.now k (2 + k) (λ j m. c.loop-word.invariant.by_two k off j (omega (arith, m, c.loop-word-test.false)))
returns-clause-apart c (suc (suc zero)) k low off = rows-same c.args.words.now k (3 + k) (λ j m. c.loop-word.invariant.by_three k off j (omega (arith, m, c.loop-word-test.false)))
returns-clause-apart c (suc (suc (suc near))) k low off = absurd (omega (arith, low))
