use Rattle.std.proofs.Common.{◌≡◌, ◌<◌, ◌++◌, length}
use Rattle.std.specs.Fmt.{decimal}
use Rattle.model_reader.proofs.decimals.number_and_others.Given as goal

abbrev pub invariant-digits : goal.invariant-digits
invariant-digits l = record { text : l.fn.bytes ≡ decimal l.number ++ l.others; rises : 0 < l.number }

abbrev pub decreases-digits : goal.decreases-digits
decreases-digits l = length l.others
