use Rattle.key_table.proofs.table.KeyTable.grow.Goals as goal

pub invariant_of-self-in-Err : goal.invariant_of-self-in-Err
invariant_of-self-in-Err c = (
  record {
    placed = c.rehash.ensures.kept c.self.inside.slots.items c.self.inside.shift c.self.invariant.0.placed;
    apart = c.self.invariant.0.apart;
  },
  c.self.invariant.1,
)
