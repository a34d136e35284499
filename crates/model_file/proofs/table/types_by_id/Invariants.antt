use Rattle.std.proofs.Common.{◌≡◌, ℕ, take, length}
use Rattle.model_file.specs.Rules.{type_of}
use Rattle.model_file.specs.Table.{type_at}
use Rattle.model_file.proofs.table.types_by_id.Given as goal

abbrev pub invariant-partitions : goal.invariant-partitions
invariant-partitions l = record { ids : length l.table.items ≡ 1024; types : (id : ℕ) → type_at l.table.items id ≡ type_of (take l.partition-index l.partitions) id }
