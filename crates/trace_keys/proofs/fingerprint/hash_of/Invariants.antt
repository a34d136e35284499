use Rattle.std.proofs.Common.{◌≡◌, take}
use Rattle.std.specs.List.{fold}
use Rattle.trace_keys.specs.Fingerprints.{hash_step}
use Rattle.trace_keys.proofs.fingerprint.hash_of.Given as goal

abbrev pub invariant-loop-b : goal.invariant-loop-b
invariant-loop-b l = l.hash ≡ fold hash_step 0 (take l.b-index l.bytes)
