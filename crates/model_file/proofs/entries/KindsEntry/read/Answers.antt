use Rattle.std.proofs.Common.{Some, sym, ap, ◌∙◌}
use Rattle.model_file.specs.Entries.{◌>>=◌, list_in, kind_in, kinds_from, kinds_named}
use Rattle.model_file.specs.Streams.{data_at}
use Rattle.model_file.proofs.Entering.{mapped, kinds-are}
use Rattle.model_file.proofs.entries.KindsEntry.read.Goals as goal

pub returns-in-Ok-Some-clause-value : goal.returns-in-Ok-Some-clause-value
returns-in-Ok-Some-clause-value c =
    let left = c.read.new.reader in
    mapped (list_in kind_in) kinds_named (λ o. o >>= kinds_from) kinds-are (data_at c.args.depth c.args.reader.now) left c.in-Ok-Some.field-0 c.in-Ok-Some.ensures.value
    ∙ ap (λ o. Some (o >>= kinds_from, left)) c.in-Ok-Some.field-0-is
    ∙ ap (λ o. Some (o, left)) (ap kinds_from (sym c.as_slice.ensures) ∙ sym c.kinds_from.ensures)

pub returns-in-Ok-None-clause-value : goal.returns-in-Ok-None-clause-value
returns-in-Ok-None-clause-value c =
    let left = c.read.new.reader in
    mapped (list_in kind_in) kinds_named (λ o. o >>= kinds_from) kinds-are (data_at c.args.depth c.args.reader.now) left c.in-Ok-None.field-0 c.in-Ok-None.ensures.value
    ∙ ap (λ o. Some (o >>= kinds_from, left)) c.in-Ok-None.field-0-is
