use Rattle.std.proofs.Common.{◌∙◌, arith}
use Rattle.closure_miner.proofs.Rows.{at-both, at-either, with-number}
use Rattle.closure_miner.proofs.striking.strike_earlier.Goals as goal

pub returns-clause-later : goal.returns-clause-later
returns-clause-later g c = λ b. c.with.ensures b ∙ with-number c.args.x c.place_of-place.result b (g.S.TypeSet.has c.args.later b) c.place_of-place.ensures

pub returns-clause-followed : goal.returns-clause-followed
returns-clause-followed g c = λ a b.
    at-both g.S.TypeSet.has c.args.followed.now c.place_of-place.result c.index-followed-place.result c.both.result (g.S.TypeSet.has c.args.later) c.args.x a b c.place_of-place.ensures
    (omega (arith, c.place_of-place.ensures, c.requires.number.1)) c.index-followed-place.is c.both.ensures

pub returns-clause-never : goal.returns-clause-never
returns-clause-never g c = λ a b.
    at-either g.S.TypeSet.has c.args.met.now c.place_of-place.result c.index-met-place.result c.either.result c.args.later c.args.x a b c.place_of-place.ensures
    (omega (arith, c.place_of-place.ensures, c.requires.number.1, c.requires.same)) c.index-met-place.is c.either.ensures
