use Rattle.std.proofs.Common.{◌<◌, Bool, List, false, get_or, length, arith, ap, sym, ◌∙◌}
use Rattle.std.proofs.lemmas.Bool.{ltb-true, ltb-false}
use Rattle.std.proofs.lemmas.List.{get_or_default, get_or_past}
use Rattle.closure_miner.specs.Rows.{in_row}
use Rattle.closure_miner.proofs.Rows.{at-before}
use Rattle.closure_miner.proofs.between.Between.has.Goals as goal

pub returns-in-Some : goal.returns-in-Some
returns-in-Some c =
    let self = c.args.self.now in
    let b = c.args.b in
    let row = c.deref.result.now in
    let inside : b < length row = ltb-true b (length row) (sym c.in-Some.ensures.lookup.0) in
    c.in-Some.ensures.lookup.1 ∙ get_or_default row b c.in-Some.stands.now false inside ∙ ap (λ (xs : List Bool). get_or xs b false) c.deref.ensures.value
    ∙ at-before in_row self.rows.items c.args.a b c.index.result.now (omega (arith, self.square, c.requires)) c.index.ensures

pub returns-in-None : goal.returns-in-None
returns-in-None c =
    let self = c.args.self.now in
    let b = c.args.b in
    let row = c.deref.result.now in
    sym (get_or_past row b false (ltb-false b (length row) (sym c.in-None.ensures.lookup.0))) ∙ ap (λ (xs : List Bool). get_or xs b false) c.deref.ensures.value
    ∙ at-before in_row self.rows.items c.args.a b c.index.result.now (omega (arith, self.square, c.requires)) c.index.ensures
