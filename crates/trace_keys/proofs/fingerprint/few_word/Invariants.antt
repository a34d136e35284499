use Rattle.std.proofs.Common.{◌≡◌, ◌≤◌, length, drop}
use Rattle.trace_keys.specs.Fingerprints.{number_of}
use Rattle.trace_keys.proofs.fingerprint.few_word.Given as goal

abbrev pub invariant-loop-left : goal.invariant-loop-left
invariant-loop-left l = (l.word ≡ number_of (drop l.left l.bytes)) × (l.left ≤ length l.bytes)

abbrev pub decreases-loop-left : goal.decreases-loop-left
decreases-loop-left l = l.left
