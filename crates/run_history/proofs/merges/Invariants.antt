use Rattle.std.proofs.Common.{◌≡◌, ◌≤◌, length, map, take, vec_len, vec_capacity}
use Rattle.run_history.specs.Records.{merge_of}
use Rattle.run_history.proofs.merges.Given as goal

abbrev pub invariant-loop-merge : goal.invariant-loop-merge
invariant-loop-merge l =
    record {
      told : l.list.items ≡ map merge_of (take l.merge-index l.entries);
      count : vec_len l.list ≡ l.merge-index;
      room : length l.entries ≤ vec_capacity l.list;
    }
