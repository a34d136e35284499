use Rattle.std.proofs.Common.{◌+◌, set, ap, ◌∙◌}
use Rattle.cell_pool.proofs.Done.{before_in, behind_in, end_in, move_done}
use Rattle.cell_pool.proofs.cells.Cells.move_to.Goals as goal

pub join-requires-clause-a_in : goal.join-requires-clause-a_in
join-requires-clause-a_in c = before_in c.args.self.now c.self.inside.next.items c.self.inside.prev.items c.self.inside.cells c.self.inside.lists c.self.view_is c.self.invariant c.args.cell c.args.from c.args.to c.requires.from_list c.requires.to_list c.requires.apart c.requires.stands c.index-before.result.now c.index-behind.result.now c.index-before.ensures c.index-behind.ensures

pub join-requires-clause-b_in : goal.join-requires-clause-b_in
join-requires-clause-b_in c = behind_in c.args.self.now c.self.inside.next.items c.self.inside.prev.items c.self.inside.cells c.self.inside.lists c.self.view_is c.self.invariant c.args.cell c.args.from c.args.to c.requires.from_list c.requires.to_list c.requires.apart c.requires.stands c.index-before.result.now c.index-behind.result.now c.index-before.ensures c.index-behind.ensures

pub join-requires-2-clause-a_in : goal.join-requires-2-clause-a_in
join-requires-2-clause-a_in c = end_in c.args.self.now c.self.inside.next.items c.self.inside.prev.items c.self.inside.cells c.self.inside.lists c.self.view_is c.self.invariant c.args.cell c.args.from c.args.to c.requires.from_list c.requires.to_list c.requires.apart c.requires.stands c.index-before.result.now c.index-behind.result.now c.index-before.ensures c.index-behind.ensures c.join.new.next.items c.join.new.prev.items c.index-last.result.now c.join.ensures.next c.join.ensures.prev c.index-last.ensures

pub invariant_of-self : goal.invariant_of-self
invariant_of-self c = (move_done c.args.self.now c.self.inside.next.items c.self.inside.prev.items c.self.inside.cells c.self.inside.lists c.self.view_is c.self.invariant c.args.cell c.args.from c.args.to c.requires.from_list c.requires.to_list c.requires.apart c.requires.stands c.index-before.result.now c.index-behind.result.now c.index-before.ensures c.index-behind.ensures c.join.new.next.items c.join.new.prev.items c.index-last.result.now c.join.ensures.next c.join.ensures.prev c.index-last.ensures
    c.join-3.new.next.items c.join-3.new.prev.items (c.join-3.ensures.next ∙ ap (λ l. set l c.args.cell (c.self.inside.cells + c.args.to)) c.join-2.ensures.next)
    (c.join-3.ensures.prev ∙ ap (λ l. set l (c.self.inside.cells + c.args.to) c.args.cell) c.join-2.ensures.prev)).table

pub returns-clause-lists : goal.returns-clause-lists
returns-clause-lists c = (move_done c.args.self.now c.self.inside.next.items c.self.inside.prev.items c.self.inside.cells c.self.inside.lists c.self.view_is c.self.invariant c.args.cell c.args.from c.args.to c.requires.from_list c.requires.to_list c.requires.apart c.requires.stands c.index-before.result.now c.index-behind.result.now c.index-before.ensures c.index-behind.ensures c.join.new.next.items c.join.new.prev.items c.index-last.result.now c.join.ensures.next c.join.ensures.prev c.index-last.ensures
    c.join-3.new.next.items c.join-3.new.prev.items (c.join-3.ensures.next ∙ ap (λ l. set l c.args.cell (c.self.inside.cells + c.args.to)) c.join-2.ensures.next)
    (c.join-3.ensures.prev ∙ ap (λ l. set l (c.self.inside.cells + c.args.to) c.args.cell) c.join-2.ensures.prev)).shows

pub returns-clause-cells : goal.returns-clause-cells
returns-clause-cells c = (move_done c.args.self.now c.self.inside.next.items c.self.inside.prev.items c.self.inside.cells c.self.inside.lists c.self.view_is c.self.invariant c.args.cell c.args.from c.args.to c.requires.from_list c.requires.to_list c.requires.apart c.requires.stands c.index-before.result.now c.index-behind.result.now c.index-before.ensures c.index-behind.ensures c.join.new.next.items c.join.new.prev.items c.index-last.result.now c.join.ensures.next c.join.ensures.prev c.index-last.ensures
    c.join-3.new.next.items c.join-3.new.prev.items (c.join-3.ensures.next ∙ ap (λ l. set l c.args.cell (c.self.inside.cells + c.args.to)) c.join-2.ensures.next)
    (c.join-3.ensures.prev ∙ ap (λ l. set l (c.self.inside.cells + c.args.to) c.args.cell) c.join-2.ensures.prev)).keeps
