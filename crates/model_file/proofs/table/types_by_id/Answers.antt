use Rattle.std.proofs.Common.{◌≡◌, ℕ, length, List, Option, ap, ◌∙◌, arith}
use Rattle.std.proofs.lemmas.Grind.{common_steps}
use Rattle.std.proofs.lemmas.List.{with_items_is}
use Rattle.model_file.specs.Table.{type_at}
use Rattle.model_file.proofs.Tables.{types-more}
use Rattle.model_file.proofs.table.types_by_id.Goals as goal

pub partitions-preserved : goal.partitions-preserved
partitions-preserved c =
    let kept : length c.note.new.table ≡ c.partitions.table.len = omega (arith, c.note.auto.table, c.deref_mut.ensures.len, c.partitions.table.ok.0) in
    let items = with_items_is c.partitions.table c.note.new.table kept in
    record {
      ids = omega (arith, ap (λ (xs : List (Option ℕ)). length xs) items, kept, c.partitions.table.ok.0, c.partitions.invariant.ids);
      types = λ id.
          ap (λ (xs : List (Option ℕ)). type_at xs id) items
          ∙ types-more c.args.partitions.now c.partitions.partition-index _ id (type_at c.deref_mut.result.now id) (type_at c.note.new.table id) c.partitions-test.true
          (ap (λ (xs : List (Option ℕ)). type_at xs id) c.deref_mut.ensures.value ∙ c.partitions.invariant.types id) (c.note.ensures id);
    }

pub partitions-init : goal.partitions-init
partitions-init c = grind (arith, common_steps)

pub returns : goal.returns
returns c = grind (arith, common_steps)
