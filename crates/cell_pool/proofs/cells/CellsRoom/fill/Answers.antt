use Rattle.std.proofs.Common.{◌≡◌, ◌-◌, List, ℕ, [], ◌∷◌, replicate, ap, ◌∙◌, subst}
use Rattle.std.specs.List.{range_with_len}
use Rattle.cell_pool.specs.Chains.{table_of, IsTable}
use Rattle.cell_pool.specs.Rooms.{CellCounts}
use Rattle.cell_pool.specs.Tables.{HasCells}
use Rattle.cell_pool.proofs.Done.{made_done}
use Rattle.cell_pool.proofs.cells.CellsRoom.fill.Goals as goal
use Rattle.cell_pool.proofs.cells.CellsRoom.fill.Goals.{After-write_prev}

-- the nodes that are written hold all cells in the first list
made : (c : After-write_prev) → IsTable c.write_next.new.next.items c.write_prev.new.prev.items c.self.inside.cells c.self.inside.lists (table_of c.write_next.new.next.items c.self.inside.cells c.self.inside.lists)
    × (table_of c.write_next.new.next.items c.self.inside.cells c.self.inside.lists ≡ range_with_len 0 c.self.inside.cells ∷ replicate (c.self.inside.lists - 1) [])
    × HasCells (table_of c.write_next.new.next.items c.self.inside.cells c.self.inside.lists) c.self.inside.cells
made c =
    made_done c.write_next.new.next.items c.write_prev.new.prev.items c.self.inside.cells c.self.inside.lists c.self.invariant.2 c.self.invariant.3
    c.write_next.ensures c.write_prev.ensures

pub invariant_of-result : goal.invariant_of-result
invariant_of-result c = (made (goal.at.invariant_of-result c).After-write_prev).0

pub returns-clause-lists : goal.returns-clause-lists
returns-clause-lists c = (made (goal.at.returns-clause-lists c).After-write_prev).1 ∙ ap (λ (n : CellCounts). range_with_len 0 n.cells ∷ replicate {A = List ℕ} (n.lists - 1) []) c.self.view_is

pub returns-clause-cells : goal.returns-clause-cells
returns-clause-cells c =
    subst (λ (n : CellCounts). HasCells (table_of c.write_next.new.next.items c.self.inside.cells c.self.inside.lists) n.cells) c.self.view_is (made (goal.at.returns-clause-cells c).After-write_prev).2
