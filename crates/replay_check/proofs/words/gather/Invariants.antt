use Rattle.std.proofs.Common.{◌≡◌, take}
use Rattle.replay_check.specs.Laid.{inner_words_of}
use Rattle.replay_check.specs.Sharing.{gathered}
use Rattle.replay_check.proofs.words.gather.Given as goal

abbrev pub invariant-loop-t : goal.invariant-loop-t
invariant-loop-t l = l.all.items ≡ gathered l.ids (take l.t l.places) (take l.t (inner_words_of l.traces))
