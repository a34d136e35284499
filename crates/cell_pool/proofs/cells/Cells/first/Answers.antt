use Rattle.cell_pool.proofs.Done.{first_done}
use Rattle.cell_pool.proofs.cells.Cells.first.Goals as goal

pub returns : goal.returns
returns c = first_done c.args.self.now c.self.inside.next.items c.self.inside.prev.items c.self.inside.cells c.self.inside.lists c.self.view_is c.self.invariant c.args.list c.index.result.now c.cell_of.result c.requires c.index.ensures c.cell_of.ensures
