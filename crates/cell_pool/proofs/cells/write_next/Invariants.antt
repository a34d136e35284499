use Rattle.std.proofs.Common.{◌≡◌, ◌≤◌, map, vec_capacity}
use Rattle.std.specs.List.{range_with_len}
use Rattle.cell_pool.specs.Chains.{next_at_start}
use Rattle.cell_pool.proofs.cells.write_next.Given as goal

abbrev pub invariant-loop-node : goal.invariant-loop-node
invariant-loop-node l =
    record {
      items : l.next.items ≡ map (next_at_start l.cells) (range_with_len 0 l.node);
      taken : l.nodes ≤ vec_capacity l.next;
    }
