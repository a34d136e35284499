use Rattle.std.proofs.Common.{◌≡◌, ◌<◌, ℕ, List, Option, length, Ok, refl, sym, ap, subst, ◌∙◌, rules}
use Rattle.std.specs.Prelude.{IfErr}
use Rattle.std.proofs.lemmas.Result.{err_from_is_err_and, on_ok_weaker}
use Rattle.std.proofs.lemmas.List.Elements.{All-from_recursion}
use Rattle.limits.specs.declared.TheConstants.{MAX_TYPES, MAX_PARTITIONS}
use Rattle.invariants.specs.declared.records.Partition.{Partition}
use Rattle.model_file.specs.declared.refusal.Field.TheVariants.{Types, Partitions}
use Rattle.model_file.specs.Rules.{types_hold, partitions_hold, type_of}
use Rattle.model_file.specs.Table.{type_at}
use Rattle.model_file.specs.Versions.{max_types}
use Rattle.model_file.specs.Reading.{or_shape, Fails}
use Rattle.model_file.specs.Found.{types_from, kinds_tested}
use Rattle.model_file.proofs.Shapes.{rule-of}
use Rattle.model_file.proofs.Bounds.{few-types, types-within, max_types-within, all-weaker, numbered, IsNumbered}
use Rattle.model_file.proofs.Fails.{fails-at}
use Rattle.model_file.proofs.FoundIs.{model-is}
use Rattle.model_file.proofs.PartByPart.{from-kinds, partitions-refused, from-others}
use Rattle.model_file.proofs.reading.test_parts.Goals as goal

pub returns-in_err-types-clause-err : goal.returns-in_err-types-clause-err
returns-in_err-types-clause-err c =
    let v = c.args.version in
    let f = c.args.found.now in
    let p = err_from_is_err_and c.from_residual.result c.from_residual.ensures.1 in
    fails-at _ _ c.from_residual.result _ (types_from v f) _ p.1 p.2 refl c.in_err-types.ensures

pub returns-in_err-kinds-clause-err : goal.returns-in_err-kinds-clause-err
returns-in_err-kinds-clause-err c =
    let v = c.args.version in
    let f = c.args.found.now in
    let ts = c.in_ok-types.types.now in
    let p = err_from_is_err_and c.from_residual-in_err-kinds.result c.from_residual-in_err-kinds.ensures.1 in
    fails-at _ _ c.from_residual-in_err-kinds.result _ (kinds_tested v f) _ p.1 p.2 (from-kinds v f ts c.in_ok-types.ensures) c.in_err-kinds.ensures

pub partitions_in-requires : goal.partitions_in-requires
partitions_in-requires c =
    let v = c.args.version in
    let f = c.args.found.now in
    let ts = c.in_ok-types.types.now in
    few-types MAX_TYPES ts (types-within (max_types v) MAX_TYPES ts (max_types-within v) (rule-of Types (types_hold (max_types v)) (or_shape Types f.types) ts c.in_ok-types.ensures))

pub returns-in_err-partitions-clause-err : goal.returns-in_err-partitions-clause-err
returns-in_err-partitions-clause-err c =
    let p = err_from_is_err_and c.from_residual-in_err-partitions.result c.from_residual-in_err-partitions.ensures.1 in
    search (rules, partitions-refused c.args.version c.args.found.now c.in_ok-types.types.now c.in_ok-types.ensures _ _ c.from_residual-in_err-partitions.result p.1 p.2 c.in_err-partitions.ensures)

pub types_by_id-requires : goal.types_by_id-requires
types_by_id-requires c =
    let f = c.args.found.now in
    let ts = c.in_ok-types.types.now in
    let ps = c.in_ok-partitions.partitions.now in
    let all = numbered (length ts) ps (rule-of Partitions (partitions_hold (length ts)) (or_shape Partitions f.partitions) ps c.in_ok-partitions.ensures) in
    All-from_recursion (λ (p : Partition). p.id < MAX_PARTITIONS) ps (all-weaker (IsNumbered (length ts)) (λ (p : Partition). p.id < MAX_PARTITIONS) (λ p x. x.id) ps all)

pub test_others-requires : goal.test_others-requires
test_others-requires c =
    let v = c.args.version in
    let f = c.args.found.now in
    let ts = c.in_ok-types.types.now in
    few-types MAX_TYPES ts (types-within (max_types v) MAX_TYPES ts (max_types-within v) (rule-of Types (types_hold (max_types v)) (or_shape Types f.types) ts c.in_ok-types.ensures))

pub returns-clause-ok : goal.returns-clause-ok
returns-clause-ok c =
    let v = c.args.version in
    let f = c.args.found.now in
    let ts = c.in_ok-types.types.now in
    let kinds = c.in_ok-kinds.kinds in
    let ps = c.in_ok-partitions.partitions.now in
    let agree : (id : ℕ) → type_at c.deref.result.now id ≡ type_of ps id = λ id. ap (λ (xs : List (Option ℕ)). type_at xs id) c.deref.ensures.value ∙ c.in_ok-table.ensures id in
    let is = from-others v f ts c.in_ok-types.ensures kinds c.in_ok-kinds.ensures ps (type_at c.deref.result.now) agree c.in_ok-partitions.ensures in
    let model = model-is v f ts kinds (length ts) ps c.in_ok-types.ensures c.in_ok-kinds.ensures c.in_ok-partitions.ensures in
    on_ok_weaker c.test_others.result (λ passed. is ∙ passed ∙ ap Ok (sym model)) c.test_others.ensures.ok

pub returns-clause-err : goal.returns-clause-err
returns-clause-err c =
    let v = c.args.version in
    let f = c.args.found.now in
    let ts = c.in_ok-types.types.now in
    let kinds = c.in_ok-kinds.kinds in
    let ps = c.in_ok-partitions.partitions.now in
    let agree : (id : ℕ) → type_at c.deref.result.now id ≡ type_of ps id = λ id. ap (λ (xs : List (Option ℕ)). type_at xs id) c.deref.ensures.value ∙ c.in_ok-table.ensures id in
    let is = from-others v f ts c.in_ok-types.ensures kinds c.in_ok-kinds.ensures ps (type_at c.deref.result.now) agree c.in_ok-partitions.ensures in
    subst (λ w. IfErr c.test_others.result (λ x. Fails x w)) (sym is) c.test_others.ensures.err
