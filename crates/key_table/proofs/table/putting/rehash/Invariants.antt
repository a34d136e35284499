use Rattle.key_table.specs.Placed.{KeepsPlaced}
use Rattle.key_table.proofs.Placed.{ArePlacedTo}
use Rattle.key_table.proofs.table.putting.rehash.Given as goal

abbrev pub invariant-loop-place : goal.invariant-loop-place
invariant-loop-place l = KeepsPlaced l.keys l.initial.rest.entries l.rest.entries × ArePlacedTo l.place l.slots.items l.shift l.rest.entries l.keys
