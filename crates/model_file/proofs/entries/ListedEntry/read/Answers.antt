use Rattle.std.proofs.Common.{Some, ap, ◌∙◌}
use Rattle.model_file.specs.Entries.{◌>>=◌, type_in, kind_in, listed_in}
use Rattle.model_file.specs.Rows.{labels_as}
use Rattle.model_file.specs.Lists.{row_in}
use Rattle.model_file.specs.Streams.{data_at}
use Rattle.model_file.proofs.Entering.{mapped, four_row, made_four, to_listed, listed-is}
use Rattle.model_file.proofs.entries.ListedEntry.read.Goals as goal

pub returns-in-Ok-Some-clause-value : goal.returns-in-Ok-Some-clause-value
returns-in-Ok-Some-clause-value c =
    let made = made_four kind_in type_in type_in labels_as to_listed in
    let row = row_in (four_row kind_in type_in type_in labels_as to_listed) in
    mapped row listed_in (λ o. o >>= made) listed-is (data_at c.args.depth c.args.reader.now) c.row_of.new.reader c.in-Ok-Some.field-0 c.in-Ok-Some.ensures.value
    ∙ ap (λ o. Some (o >>= made, c.row_of.new.reader)) c.in-Ok-Some.field-0-is

pub returns-in-Ok-None-clause-value : goal.returns-in-Ok-None-clause-value
returns-in-Ok-None-clause-value c =
    let made = made_four kind_in type_in type_in labels_as to_listed in
    let row = row_in (four_row kind_in type_in type_in labels_as to_listed) in
    mapped row listed_in (λ o. o >>= made) listed-is (data_at c.args.depth c.args.reader.now) c.row_of.new.reader c.in-Ok-None.field-0 c.in-Ok-None.ensures.value
    ∙ ap (λ o. Some (o >>= made, c.row_of.new.reader)) c.in-Ok-None.field-0-is
