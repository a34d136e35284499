use Rattle.std.proofs.Common.{◌≡◌, max, drop}
use Rattle.replay_check.specs.Laid.{longest}
use Rattle.replay_check.proofs.stitch.followed.Given as goal

abbrev pub invariant-loop-k : goal.invariant-loop-k
invariant-loop-k l = max l.most (longest l.path (drop l.k l.ids)) ≡ longest l.path l.ids
