use Rattle.std.proofs.Common.{◌≡◌, ◌≤◌, length, map, take, vec_len, vec_capacity}
use Rattle.run_history.specs.Records.{block_of}
use Rattle.run_history.proofs.blocks.Given as goal

abbrev pub invariant-loop-block : goal.invariant-loop-block
invariant-loop-block l =
    record {
      told : l.list.items ≡ map (block_of l.spans.numbers) (take l.block-index l.entries);
      count : vec_len l.list ≡ l.block-index;
      room : length l.entries ≤ vec_capacity l.list;
    }
