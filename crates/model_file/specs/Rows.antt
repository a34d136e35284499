-- The labels of an invariant, as a field of its row.
use Rattle.std.specs.Prelude.{Option, Some}
use Rattle.serde_json.specs.Data.{Data}
use Rattle.model_file.specs.declared.labels.Labels.{Labels}
use Rattle.model_file.specs.Entries.{◌>>=◌, labels_in}

-- the labels of a string, if all its bytes are digits from `0` to `7`
abbrev pub labels_as : Data → Option Labels
labels_as d = labels_in d >>= λ found. Some (record { labels = found })
