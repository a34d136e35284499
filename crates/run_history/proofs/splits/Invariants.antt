use Rattle.std.proofs.Common.{◌≡◌, ◌≤◌, length, map, take, vec_len, vec_capacity}
use Rattle.run_history.specs.Records.{split_of}
use Rattle.run_history.proofs.splits.Given as goal

abbrev pub invariant-loop-split : goal.invariant-loop-split
invariant-loop-split l =
    record {
      told : l.list.items ≡ map (split_of l.spans.numbers) (take l.split-index l.entries);
      count : vec_len l.list ≡ l.split-index;
      room : length l.entries ≤ vec_capacity l.list;
    }
