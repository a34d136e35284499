-- What is read computes.
use Rattle.std.proofs.Common.{refl}
use Rattle.std.specs.Char.{encode_utf8}
use Rattle.std.specs.Str.{chars, is_utf8}
use Rattle.std.specs.Str.Lossy.{utf8_lossy, utf8_valid_len}
use Rattle.events.proofs.law.a_small_log_tells.Goals as goal

pub returns : goal.returns
unfolding utf8_lossy utf8_valid_len is_utf8 chars encode_utf8
returns c = record { events = refl; undecided = refl }
