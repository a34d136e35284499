use Rattle.std.proofs.Common.{◌≡◌, take}
use Rattle.reports.specs.Lists.{hash_of}
use Rattle.reports.proofs.slots.hash_of.Given as goal

abbrev pub invariant-loop-id : goal.invariant-loop-id
invariant-loop-id l = l.hash ≡ hash_of (take l.id-index l.ids)
