-- What is written computes.
use Rattle.std.proofs.Common.{refl}
use Rattle.std.specs.Char.{encode_utf8}
use Rattle.std.specs.Fmt.{digits}
use Rattle.std.specs.Str.{chars, is_utf8}
use Rattle.std.specs.Str.Lossy.{utf8_lossy, utf8_valid_len}
use Rattle.serde_json.proofs.OnLiterals.{serde_json_on_literals}
use Rattle.events_cli.proofs.law.small_logs_tell.Goals as goal

pub returns : goal.returns
unfolding utf8_lossy utf8_valid_len is_utf8 chars encode_utf8 digits serde_json_on_literals
returns c = record { by_traces = refl; in_order = refl; plain = refl; undecided = refl }
