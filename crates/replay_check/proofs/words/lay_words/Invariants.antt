use Rattle.std.proofs.Common.{◌≡◌, ◌+◌, take, length}
use Rattle.replay_check.specs.declared.words.TheConstants.{SLOTS}
use Rattle.replay_check.specs.Laid.{inner_words_of}
use Rattle.replay_check.proofs.Starting.{AreRanged}
use Rattle.replay_check.proofs.Noting.{IsLaying}
use Rattle.replay_check.proofs.words.lay_words.Given as goal

abbrev pub invariant-loop-t : goal.invariant-loop-t
invariant-loop-t l =
    record {
      size : length l.kept.items ≡ SLOTS;
      laying : IsLaying (inner_words_of l.traces) l.t l.kept.items l.places.items l.ids.items;
      ranged : AreRanged (length l.traces.types + 2) (take l.t (inner_words_of l.traces));
    }
