use Rattle.std.proofs.Common.{length, Ok, refl, sym, ap, ◌∙◌}
use Rattle.std.proofs.lemmas.Result.{err_from_is_err_and}
use Rattle.model_file.specs.Table.{type_at}
use Rattle.model_file.specs.Reading.{◌>>=◌}
use Rattle.model_file.specs.Found.{edges_from, invariants_from, merges_from, splits_from, blocks_from}
use Rattle.model_file.proofs.Fails.{fails-at}
use Rattle.model_file.proofs.FoundIs.{others-are}
use Rattle.model_file.proofs.PartByPart.{from-invariants, from-merges, from-splits, from-blocks}
use Rattle.model_file.proofs.reading.test_others.Goals as goal

pub returns-in_err-edges_in-clause-err : goal.returns-in_err-edges_in-clause-err
returns-in_err-edges_in-clause-err c =
    let f = c.args.found.now in
    let type = type_at c.args.table.now in
    let p = err_from_is_err_and c.from_residual.result c.from_residual.ensures.1 in
    fails-at _ _ c.from_residual.result _ (edges_from type f) _ p.1 p.2 refl c.in_err-edges_in.ensures

pub returns-in_err-invariants-clause-err : goal.returns-in_err-invariants-clause-err
returns-in_err-invariants-clause-err c =
    let f = c.args.found.now in
    let type = type_at c.args.table.now in
    let ts = c.args.types.now in
    let kinds = c.args.kinds in
    let ps = c.args.partitions.now in
    let es = c.in_ok-edges_in.field-0.now in
    let p = err_from_is_err_and c.from_residual-in_err-invariants.result c.from_residual-in_err-invariants.ensures.1 in
    fails-at _ _ c.from_residual-in_err-invariants.result _ (invariants_from kinds (length ts) (length ps) f) _ p.1 p.2 (from-invariants type ts kinds ps f es c.in_ok-edges_in.ensures) c.in_err-invariants.ensures

pub returns-in_err-merges_in-clause-err : goal.returns-in_err-merges_in-clause-err
returns-in_err-merges_in-clause-err c =
    let f = c.args.found.now in
    let type = type_at c.args.table.now in
    let es = c.in_ok-edges_in.field-0.now in
    let ls = c.in_ok-invariants.invariants.now in
    let p = err_from_is_err_and c.from_residual-in_err-merges_in.result c.from_residual-in_err-merges_in.ensures.1 in
    fails-at _ _ c.from_residual-in_err-merges_in.result _ (merges_from f) _ p.1 p.2 (from-merges type c.args.types.now c.args.kinds c.args.partitions.now f es c.in_ok-edges_in.ensures ls c.in_ok-invariants.ensures) c.in_err-merges_in.ensures

pub returns-in_err-splits-clause-err : goal.returns-in_err-splits-clause-err
returns-in_err-splits-clause-err c =
    let f = c.args.found.now in
    let type = type_at c.args.table.now in
    let es = c.in_ok-edges_in.field-0.now in
    let ls = c.in_ok-invariants.invariants.now in
    let ms = c.in_ok-merges_in.field-0.now in
    let p = err_from_is_err_and c.from_residual-in_err-splits.result c.from_residual-in_err-splits.ensures.1 in
    fails-at _ _ c.from_residual-in_err-splits.result _ (splits_from (length ls) f) _ p.1 p.2 (from-splits type c.args.types.now c.args.kinds c.args.partitions.now f es c.in_ok-edges_in.ensures ls c.in_ok-invariants.ensures ms c.in_ok-merges_in.ensures) c.in_err-splits.ensures

pub returns-in_err-blocks_in-clause-err : goal.returns-in_err-blocks_in-clause-err
returns-in_err-blocks_in-clause-err c =
    let f = c.args.found.now in
    let type = type_at c.args.table.now in
    let es = c.in_ok-edges_in.field-0.now in
    let ls = c.in_ok-invariants.invariants.now in
    let ms = c.in_ok-merges_in.field-0.now in
    let ss = c.in_ok-splits.splits.now in
    let p = err_from_is_err_and c.from_residual-in_err-blocks_in.result c.from_residual-in_err-blocks_in.ensures.1 in
    fails-at _ _ c.from_residual-in_err-blocks_in.result _ (blocks_from type (length ls) ss f) _ p.1 p.2 (from-blocks type c.args.types.now c.args.kinds c.args.partitions.now f es c.in_ok-edges_in.ensures ls c.in_ok-invariants.ensures ms c.in_ok-merges_in.ensures ss c.in_ok-splits.ensures) c.in_err-blocks_in.ensures

pub returns-clause-ok : goal.returns-clause-ok
returns-clause-ok c =
    let f = c.args.found.now in
    let type = type_at c.args.table.now in
    let ts = c.args.types.now in
    let kinds = c.args.kinds in
    let ps = c.args.partitions.now in
    let es = c.in_ok-edges_in.field-0.now in
    let ls = c.in_ok-invariants.invariants.now in
    let ms = c.in_ok-merges_in.field-0.now in
    let ss = c.in_ok-splits.splits.now in
    let bs = c.in_ok-blocks_in.field-0.now in
    from-blocks type ts kinds ps f es c.in_ok-edges_in.ensures ls c.in_ok-invariants.ensures ms c.in_ok-merges_in.ensures ss c.in_ok-splits.ensures
    ∙ ap (λ r. r >>= λ xs. Ok (record { types = ts; kinds = kinds; partitions = ps; edges = es; invariants = ls; splits = ss; merges = ms; blocks = xs })) c.in_ok-blocks_in.ensures
    ∙ ap Ok (sym (others-are type ts kinds ps f es (length ts) (length ps) ls ms (length ls) ss (length ls) bs c.in_ok-edges_in.ensures c.in_ok-invariants.ensures c.in_ok-merges_in.ensures c.in_ok-splits.ensures c.in_ok-blocks_in.ensures))
