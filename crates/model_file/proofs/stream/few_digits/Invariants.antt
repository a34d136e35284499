use Rattle.std.proofs.Common.{◌≡◌, drop}
use Rattle.model_file.specs.Streams.{digits_after}
use Rattle.model_file.proofs.stream.few_digits.Given as goal

abbrev pub invariant-digits : goal.invariant-digits
invariant-digits l = digits_after l.n (drop l.byte-index l.bytes) ≡ digits_after 0 l.bytes
