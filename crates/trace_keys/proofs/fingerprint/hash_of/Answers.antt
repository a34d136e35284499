use Rattle.std.proofs.Common.{ap, ◌∙◌, take_all, arith}
use Rattle.std.specs.List.{fold}
use Rattle.trace_keys.specs.Fingerprints.{hash_step, hash_of_bytes}
use Rattle.trace_keys.proofs.fingerprint.hash_of.Goals as goal

pub returns : goal.returns
unfolding hash_of_bytes
returns c = c.loop-b.invariant ∙ ap (fold hash_step 0) (take_all c.loop-b.b-index c.args.bytes.now (omega arith))
