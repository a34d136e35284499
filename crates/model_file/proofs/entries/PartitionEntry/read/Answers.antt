use Rattle.std.proofs.Common.{Some, ap, ◌∙◌}
use Rattle.model_file.specs.Entries.{◌>>=◌, number_in, type_in, partition_in}
use Rattle.model_file.specs.Lists.{row_in}
use Rattle.model_file.specs.Streams.{data_at}
use Rattle.model_file.proofs.Entering.{mapped, three_row, made_three, to_partition, partition-is}
use Rattle.model_file.proofs.entries.PartitionEntry.read.Goals as goal

pub returns-in-Ok-Some-clause-value : goal.returns-in-Ok-Some-clause-value
returns-in-Ok-Some-clause-value c =
    let made = made_three number_in type_in number_in to_partition in
    let row = row_in (three_row number_in type_in number_in to_partition) in
    mapped row partition_in (λ o. o >>= made) partition-is (data_at c.args.depth c.args.reader.now) c.row_of.new.reader c.in-Ok-Some.field-0 c.in-Ok-Some.ensures.value
    ∙ ap (λ o. Some (o >>= made, c.row_of.new.reader)) c.in-Ok-Some.field-0-is

pub returns-in-Ok-None-clause-value : goal.returns-in-Ok-None-clause-value
returns-in-Ok-None-clause-value c =
    let made = made_three number_in type_in number_in to_partition in
    let row = row_in (three_row number_in type_in number_in to_partition) in
    mapped row partition_in (λ o. o >>= made) partition-is (data_at c.args.depth c.args.reader.now) c.row_of.new.reader c.in-Ok-None.field-0 c.in-Ok-None.ensures.value
    ∙ ap (λ o. Some (o >>= made, c.row_of.new.reader)) c.in-Ok-None.field-0-is
