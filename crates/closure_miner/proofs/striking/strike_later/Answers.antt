use Rattle.std.proofs.Common.{◌∙◌, arith}
use Rattle.closure_miner.proofs.Rows.{at-both, with-number}
use Rattle.closure_miner.proofs.striking.strike_later.Goals as goal

pub returns-clause-earlier : goal.returns-clause-earlier
returns-clause-earlier g c = λ a. c.with.ensures a ∙ with-number c.args.x c.place_of-place.result a (g.S.TypeSet.has c.args.earlier a) c.place_of-place.ensures

pub returns-clause-preceded : goal.returns-clause-preceded
returns-clause-preceded g c = λ a b.
    at-both g.S.TypeSet.has c.args.preceded.now c.place_of-place.result c.index-preceded-place.result c.both.result (g.S.TypeSet.has c.args.earlier) c.args.x b a c.place_of-place.ensures
    (omega (arith, c.place_of-place.ensures, c.requires.number.1)) c.index-preceded-place.is c.both.ensures
