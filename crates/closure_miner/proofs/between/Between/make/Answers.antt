use Rattle.std.proofs.Common.{arith, rules}
use Rattle.closure_miner.proofs.Rows.{at-full}
use Rattle.closure_miner.proofs.between.Between.make.Goals as goal

pub returns-clause-all : goal.returns-clause-all
returns-clause-all c = λ a b in_a in_b.
    at-full c.loop-i.rows.items c.args.types a b c.loop-i.invariant.each (omega (arith, in_a, c.loop-i.invariant.count, c.loop-i-test.false)) in_b

pub loop-i-preserved : goal.loop-i-preserved
loop-i-preserved c = search rules
