use Rattle.std.proofs.Common.{◌≡◌, ◌≤◌, length, take, vec_len, vec_capacity}
use Rattle.infer_core.proofs.model.copy_of.Given as goal

abbrev pub invariant-loop-text : goal.invariant-loop-text
invariant-loop-text l =
    record {
      told : l.copy.items ≡ take l.text-index l.texts;
      count : vec_len l.copy ≡ l.text-index;
      room : length l.texts ≤ vec_capacity l.copy;
    }
