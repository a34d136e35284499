-- A log has a model within the limits, or exceeds one of them.
use Rattle.std.proofs.Common.{◌≡◌, ◌⊎◌, ◌+◌, ◌<◌, ◌≤◌, List, length, ap, inl, inr, arith}
use Rattle.std.proofs.lemmas.Bool.{cases_lt}
use Rattle.limits.specs.declared.TheConstants.{MAX_PARTITIONS, MAX_PATH_NUMBERS}
use Rattle.invariants.specs.declared.records.Split.{Split}
use Rattle.invariants.specs.declared.records.Model.{Model}
use Rattle.partition_model.specs.Assignments.{Assignment}
use Rattle.model_shape.specs.Numbers.{split_numbers, block_numbers}
use Rattle.refinement_end.specs.Laws.{IsWholeRun, RunNeedsMore}
use Rattle.refinement_end.proofs.WholeRuns.{refinement_ends, stops_tell}
use Rattle.models.specs.Models.{TypedWords, mined_of, IsModelOf}
use Rattle.models.specs.Histories.{first_new}
use Rattle.models.specs.Laws.{IsTypedLog}
use Rattle.models.proofs.Valid.{mined-hold}
use Rattle.model_exists.specs.Laws.{IsTheModel, HasModelWithin, NeedsMoreIds, NeedsMoreNumbers, LogsEndOneWay}
use Rattle.model_exists.proofs.Models.{model_exists}

-- a log that needs more ids has a model that needs more
ids-more : (m : Model) (log : TypedWords) → IsTypedLog log → IsModelOf m log → first_new log ≤ MAX_PARTITIONS → NeedsMoreIds log → MAX_PARTITIONS < first_new log + length m.splits
ids-more m log t k f i =
    let o : RunNeedsMore MAX_PARTITIONS (mined_of log) log.words (first_new log) = (stops_tell MAX_PARTITIONS (mined_of log) log.words (first_new log) t (mined-hold log) f).0 i in
    let e : length o.0 ≡ length m.splits = ap length (o.2.alone m.splits k.refined k.splits).0 in
    let l : MAX_PARTITIONS < first_new log + length o.0 = o.3 in
    omega arith

-- and a log whose model needs more ids stops with all ids used
more-ids : (m : Model) (log : TypedWords) → IsTypedLog log → IsModelOf m log → first_new log ≤ MAX_PARTITIONS → MAX_PARTITIONS < first_new log + length m.splits → NeedsMoreIds log
more-ids m log t k f l =
    let o : (splits : List Split) × (end : Assignment) × IsWholeRun (mined_of log) log.words (first_new log) splits end = refinement_ends (mined_of log) log.words (first_new log) t (mined-hold log) in
    let e : length o.0 ≡ length m.splits = ap length (o.2.alone m.splits k.refined k.splits).0 in
    (stops_tell MAX_PARTITIONS (mined_of log) log.words (first_new log) t (mined-hold log) f).1 (o.0, o.1, o.2, omega arith)

-- a log ends in one of three ways
some-end : (log : TypedWords) → IsTypedLog log → first_new log ≤ MAX_PARTITIONS → HasModelWithin log ⊎ (NeedsMoreIds log ⊎ NeedsMoreNumbers log)
some-end log t f =
    let o : (m : Model) × IsTheModel m log = model_exists log t in
    let e : length o.0.types ≡ length log.types = ap length o.1.model.types in
    elim (cases_lt MAX_PARTITIONS (first_new log + length o.0.splits)) [
      | inl l ↦ inr (inl (more-ids o.0 log t o.1.model f l))
      | inr l ↦ elim (cases_lt MAX_PATH_NUMBERS (split_numbers o.0.splits + block_numbers o.0.blocks)) [
        | inl n ↦ inr (inr (record { model = o.0; is_model = o.1; ids = omega arith; numbers = n }))
        | inr n ↦ inl (o.0, o.1, record { ids = omega arith; numbers = omega arith })
      ]
    ]

-- exactly one of the three
pub logs_end_one_way : LogsEndOneWay
logs_end_one_way log t f =
    record {
      some = some-end log t f;
      not_ids = λ w i.
          (let l : MAX_PARTITIONS < first_new log + length w.0.splits = ids-more w.0 log t w.1.model f i in
          let k : length w.0.types + 2 + length w.0.splits ≤ MAX_PARTITIONS = w.2.ids in
          let e : length w.0.types ≡ length log.types = ap length w.1.model.types in
          omega arith);
      not_numbers = λ w n.
          (let e : n.model ≡ w.0 = w.1.alone n.model n.is_model.model in
          let s : split_numbers n.model.splits ≡ split_numbers w.0.splits = ap (λ (m : Model). split_numbers m.splits) e in
          let b : block_numbers n.model.blocks ≡ block_numbers w.0.blocks = ap (λ (m : Model). block_numbers m.blocks) e in
          let k : split_numbers w.0.splits + block_numbers w.0.blocks ≤ MAX_PATH_NUMBERS = w.2.numbers in
          let l : MAX_PATH_NUMBERS < split_numbers n.model.splits + block_numbers n.model.blocks = n.numbers in
          omega arith);
      not_both = λ i n.
          (let l : MAX_PARTITIONS < first_new log + length n.model.splits = ids-more n.model log t n.is_model.model f i in
          let k : first_new log + length n.model.splits ≤ MAX_PARTITIONS = n.ids in
          omega arith);
    }
