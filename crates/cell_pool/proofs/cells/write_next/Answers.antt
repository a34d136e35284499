use Rattle.std.proofs.Common.{◌≡◌, ◌+◌, [], ◌∷◌, ◌++◌, map, ap, ◌∙◌, sym, length, arith}
use Rattle.std.specs.List.{range_with_len}
use Rattle.std.proofs.lemmas.List.FromFn.{length-map-range_with_len, map-range_with_len_more}
use Rattle.cell_pool.specs.Chains.{next_at_start}
use Rattle.cell_pool.proofs.cells.write_next.Goals as goal

pub push_reserved-requires : goal.push_reserved-requires
push_reserved-requires c = omega (arith, ap length c.loop-node.invariant.items, length-map-range_with_len (next_at_start c.args.cells) 0 c.loop-node.node, c.loop-node.invariant.taken)

pub loop-node-preserved : goal.loop-node-preserved
loop-node-preserved c =
    let here : 0 + c.loop-node.node ≡ c.loop-node.node = omega arith in
    record {
      items = c.push_reserved.ensures.items ∙ ap (λ l. l ++ c.next_of.result ∷ []) c.loop-node.invariant.items ∙ ap (λ m. map (next_at_start c.args.cells) (range_with_len 0 c.loop-node.node) ++ m ∷ []) c.next_of.ensures
          ∙ sym (map-range_with_len_more (next_at_start c.args.cells) 0 c.loop-node.node c.loop-node.node here);
      taken = omega (arith, c.push_reserved.ensures.capacity, c.loop-node.invariant.taken);
    }
