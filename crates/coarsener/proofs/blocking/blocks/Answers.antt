use Rattle.std.proofs.Common.{◌∙◌, List, length, ap, arith}
use Rattle.invariants.specs.declared.Invariant.{Invariant}
use Rattle.coarsener.proofs.blocking.blocks.Goals as goal

pub blocks_told-requires-clause-told : goal.blocks_told-requires-clause-told
blocks_told-requires-clause-told g c some = c.tell_losses-told.ensures.tells

pub blocks_told-requires-clause-few : goal.blocks_told-requires-clause-few
blocks_told-requires-clause-few g c some =
    omega (arith, c.tell_losses-told.ensures.limit some, ap (λ (invs : List Invariant). length invs) (c.tell_losses-told.ensures.list ∙ c.requires.listed))

pub blocks_told-requires-clause-listed : goal.blocks_told-requires-clause-listed
blocks_told-requires-clause-listed g c = c.tell_losses-told.ensures.list ∙ c.requires.listed

pub returns-clause-list : goal.returns-clause-list
returns-clause-list g c = c.blocks_told.ensures.list ∙ c.tell_losses-told.ensures.list

pub returns-clause-more : goal.returns-clause-more
returns-clause-more g c = omega (arith, c.tell_losses-told.ensures.more, c.blocks_told.ensures.more)

pub returns-clause-few : goal.returns-clause-few
returns-clause-few g c = omega (arith, c.tell_losses-told.ensures.few, c.blocks_told.ensures.few)
