use Rattle.std.proofs.Common.{Some, option_map, sym, ap, ◌∙◌}
use Rattle.serde_json.specs.Find.{as_str}
use Rattle.model_file.specs.Entries.{◌>>=◌, labels_of}
use Rattle.model_file.specs.Rows.{labels_as}
use Rattle.model_file.specs.Streams.{data_at}
use Rattle.model_file.proofs.Entering.{mapped, to_labels, labels-are}
use Rattle.model_file.proofs.labels.LabelsEntry.read.Goals as goal

pub returns-in-Ok-None-clause-value : goal.returns-in-Ok-None-clause-value
returns-in-Ok-None-clause-value c =
    let left = c.string.new.reader in
    mapped as_str labels_as (λ o. to_labels (o >>= labels_of)) labels-are (data_at c.args.depth c.args.reader.now) left (option_map (λ t. t.now) c.in-Ok-None.field-0) c.in-Ok-None.ensures.ok
    ∙ ap (λ o. Some (to_labels (option_map (λ t. t.now) o >>= labels_of), left)) c.in-Ok-None.field-0-is

pub returns-in-Ok-Some-labels_of-clause-value : goal.returns-in-Ok-Some-labels_of-clause-value
returns-in-Ok-Some-labels_of-clause-value c =
    let left = c.string.new.reader in
    mapped as_str labels_as (λ o. to_labels (o >>= labels_of)) labels-are (data_at c.args.depth c.args.reader.now) left (option_map (λ t. t.now) c.in-Ok-Some.field-0) c.in-Ok-Some.ensures.ok
    ∙ ap (λ o. Some (to_labels (option_map (λ t. t.now) o >>= labels_of), left)) c.in-Ok-Some.field-0-is
    ∙ ap (λ o. Some (to_labels o, left)) (ap labels_of (sym c.as_bytes.ensures.value) ∙ sym c.in-Ok-Some-labels_of.ensures ∙ c.in-Ok-Some-labels_of.field-0-is)

pub returns-in-Ok-None-labels_of-clause-value : goal.returns-in-Ok-None-labels_of-clause-value
returns-in-Ok-None-labels_of-clause-value c =
    let left = c.string.new.reader in
    mapped as_str labels_as (λ o. to_labels (o >>= labels_of)) labels-are (data_at c.args.depth c.args.reader.now) left (option_map (λ t. t.now) c.in-Ok-Some.field-0) c.in-Ok-Some.ensures.ok
    ∙ ap (λ o. Some (to_labels (option_map (λ t. t.now) o >>= labels_of), left)) c.in-Ok-Some.field-0-is
    ∙ ap (λ o. Some (to_labels o, left)) (ap labels_of (sym c.as_bytes.ensures.value) ∙ sym c.in-Ok-None-labels_of.ensures ∙ c.in-Ok-None-labels_of.field-0-is)
