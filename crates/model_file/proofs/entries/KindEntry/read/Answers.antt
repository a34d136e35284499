use Rattle.std.proofs.Common.{Some, option_map, sym, ap, ◌∙◌}
use Rattle.serde_json.specs.Find.{as_str}
use Rattle.model_file.specs.Entries.{◌>>=◌, kind_named, kind_in}
use Rattle.model_file.specs.Streams.{data_at}
use Rattle.model_file.proofs.Entering.{mapped, kind-is}
use Rattle.model_file.proofs.entries.KindEntry.read.Goals as goal

pub returns-in-Ok-Some-clause-value : goal.returns-in-Ok-Some-clause-value
returns-in-Ok-Some-clause-value c =
    mapped as_str kind_in (λ o. o >>= kind_named) kind-is (data_at c.args.depth c.args.reader.now) c.string.new.reader (option_map (λ t. t.now) c.in-Ok-Some.field-0) c.in-Ok-Some.ensures.ok
    ∙ ap (λ o. Some (option_map (λ t. t.now) o >>= kind_named, c.string.new.reader)) c.in-Ok-Some.field-0-is ∙ ap (λ o. Some (o, c.string.new.reader)) (sym c.kind_named.ensures)

pub returns-in-Ok-None-clause-value : goal.returns-in-Ok-None-clause-value
returns-in-Ok-None-clause-value c =
    mapped as_str kind_in (λ o. o >>= kind_named) kind-is (data_at c.args.depth c.args.reader.now) c.string.new.reader (option_map (λ t. t.now) c.in-Ok-None.field-0) c.in-Ok-None.ensures.ok
    ∙ ap (λ o. Some (option_map (λ t. t.now) o >>= kind_named, c.string.new.reader)) c.in-Ok-None.field-0-is
